use Rattle.std.proofs.Common.{◌∙◌, [], refl, subst, arith}
use Rattle.stream_decoder.proofs.Along.{still_met, still_stopped, stopped_more}
use Rattle.stream_decoder.proofs.FollowedPackets.{runs_front}
use Rattle.stream_decoder.proofs.FollowedRuns.{next_front}
use Rattle.stream_decoder.proofs.Fronts.{small_bytes}
use Rattle.stream_decoder.specs.Decoding.{Decoding}
use Rattle.stream_decoder.specs.Yields.{BegunFront}
use Rattle.stream_decoder.proofs.followed.follow_front.Goals.{in-Some, in-None+in_ok-behind-in-None}
use Rattle.stream_decoder.proofs.followed.follow_front.Goals as goal

pub returns-in_err-behind-in-None-clause-none : goal.returns-in_err-behind-in-None-clause-none
returns-in_err-behind-in-None-clause-none g c is =
    let before = c.in-None.ensures.none refl in let none = c.in_err-behind-in-None.ensures.none refl in (
      none.0,
      none.1 ∙ before.0,
      g.met.F.Follower.shows c.args.image.now c.args.id c.args.decoding.now.walk.ctx c.args.follower.now c.run_packets.new.taker [] before.1,
    )

pub returns-clause-follows : goal.returns-clause-follows
returns-clause-follows g c =
    let image = c.args.image.now in let takes = g.F.Follower.takes image c.args.id in let none = g.met.F.Follower.takes_none image c.args.id in
    let joins = g.met.F.Follower.takes_joined image c.args.id in let id = c.args.id in let d = c.args.decoding.now in let bytes = c.args.bytes.now in
    let old = c.args.follower.now in let mid = c.run_packets.new.taker in let new = c.follow_rest.new.follower in let d2 = c.follow_rest.new.decoding in
    let fits = small_bytes bytes (λ k. omega (arith, c.type_inv.bytes k)) in let are = c.requires.holds.reads.settings in
    let shows = g.met.F.Follower.shows image id d.walk.ctx old mid in let f = c.follow_rest.ensures in
    elim c.match-run_packets.branch [
      | in-Some w ↦
          let adds = g.F.StretchTaker.adds image id d.walk.ctx in let m = c.run_packets.new.self in let behind = w.in-Some.behind.now in
          rw w.behind-is (runs_front takes none joins adds image d m d2 bytes behind old mid new w.in-Some.ensures.runs fits are shows
          (rw w.decoding-is at f.reader) (rw w.decoding-is at f.follows))
      | in-None+in_ok-behind-in-None w ↦
          let before = w.in-None.ensures.none refl in let n = w.begin_front.new.self in let behind = w.in_ok-behind-in-None.behind.now in
          let begun = subst (λ (x : Decoding). BegunFront x n bytes behind) before.0 w.in_ok-behind-in-None.ensures.begun in
          rw w.behind-is (next_front takes none joins image d n d2 bytes behind fits are old mid new begun (rw w.decoding-is at f.reader) (shows [] before.1)
          (rw w.decoding-is at f.follows) (λ met. (rw w.decoding-is at f.stopped) (w.begin_front.ensures.holds.stopped met)))
    ]

pub returns-clause-stopped : goal.returns-clause-stopped
returns-clause-stopped g c met =
    let d = c.args.decoding.now in let bytes = c.args.bytes.now in
    elim c.match-run_packets.branch [
      | in-Some w ↦ absurd (let e = (w.in-Some.ensures.stopped met).0 in cc)
      | in-None+in_ok-behind-in-None w ↦
          let n = w.begin_front.new.self in let behind = w.in_ok-behind-in-None.behind.now in
          let begun = subst (λ (x : Decoding). BegunFront x n bytes behind) (w.in-None.ensures.none refl).0 w.in_ok-behind-in-None.ensures.begun in
          let now = still_stopped d n bytes behind met begun in
          let still = (rw w.decoding-is at c.follow_rest.ensures.stopped) (w.begin_front.ensures.holds.stopped (still_met d n now met)) in
          (stopped_more d d n c.follow_rest.new.decoding refl now still.0, still.1 ∙ (w.in-None.ensures.stopped met).1)
    ]
