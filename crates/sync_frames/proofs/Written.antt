-- What is written has its syncs where they may stand, and comes back.
use Rattle.std.proofs.Common.{◌≡◌, ◌≢◌, ℕ, zero, suc, ◌+◌, ◌-◌, ◌*◌, ◌/◌, ◌%◌, ◌<◌, List, [], ◌∷◌, ◌++◌, length, take, drop}
use Rattle.std.proofs.Common.{arith, lit<, refl, ap, sym, ◌∙◌, length-take, length-drop, append_assoc, subst}
use Rattle.std.specs.Prelude.{All, Bool, true, false, ◌==◌, if◌then◌else◌, Result, Ok, Err, OnErr}
use Rattle.std.proofs.lemmas.List.{take-append-drop, drop-drop}
use Rattle.std.proofs.lemmas.Nat.{div-add-mod'}
use Rattle.trace_io.specs.State.{IoState}
use Rattle.trace_io.specs.Bytes.{AppendsAll, AppendsShorter}
use Rattle.formatter_frames.proofs.Pieces.{length-left_over}
use Rattle.formatter_frames.proofs.RoundTrip.{nothing_left}
use Rattle.formatter_frames.proofs.Writing.{shorter_first, shorter_second}
use Rattle.formatter_frames.specs.Framed.{framed}
use Rattle.formatter_frames.specs.Pieces.{pieces}
use Rattle.sync_frames.specs.Syncs.{full_sync, unsynced}
use Rattle.sync_frames.specs.Synced.{Full, Interspersed, IsSourcePair, NoFFAtEven, Synced, synced_frame, synced_frames, synced_every}
use Rattle.sync_frames.proofs.Back.{come_back}
use Rattle.sync_frames.proofs.Even.{framed_not_ff}

-- no sync stands within a frame
pairs_among : (count place : ℕ) (xs frames bytes : List ℕ) → length xs ≡ 2 * count → Interspersed ((place + 2 * count) % 16) frames bytes → place < 16
    → Interspersed place (xs ++ frames) (xs ++ bytes)
pairs_among zero place [] frames bytes size among within =
    let same : (place + 2 * 0) % 16 ≡ place = omega arith in subst (λ p. Interspersed p frames bytes) same among
pairs_among zero place (a ∷ xs) frames bytes size among within = absurd (omega arith)
pairs_among (suc n) place [] frames bytes size among within = absurd (omega arith)
pairs_among (suc n) place (a ∷ []) frames bytes size among within = absurd (omega arith)
pairs_among (suc n) place (a ∷ b ∷ xs) frames bytes size among within =
    let same : (place + 2 * suc n) % 16 ≡ ((place + 2) % 16 + 2 * n) % 16 = omega arith in
    let rest = subst (λ p. Interspersed p frames bytes) same among in
    ([], xs ++ bytes, tt, refl, pairs_among n ((place + 2) % 16) xs frames bytes (omega arith) rest (omega arith))

-- a full sync before a frame
sync_first : (frames bytes : List ℕ) → Interspersed 0 frames bytes → Interspersed 0 frames (full_sync ++ bytes)
sync_first [] bytes among = (Full ∷ among.0, (refl, among.1), ap (λ xs. full_sync ++ xs) among.2)
sync_first (a ∷ []) bytes among = absurd among
sync_first (a ∷ b ∷ frames) bytes among =
    (Full ∷ among.0, among.1, (refl, among.2), ap (λ xs. full_sync ++ xs) among.3, among.4)

maybe_sync_first : (test : Bool) (frames bytes : List ℕ) → Interspersed 0 frames bytes → Interspersed 0 frames ((if test then full_sync else []) ++ bytes)
maybe_sync_first true frames bytes among = sync_first frames bytes among
maybe_sync_first false frames bytes among = among

frames_among : (n every count : ℕ) (xs : List ℕ) → n * 16 ≡ length xs → Interspersed 0 xs (synced_frames every count (pieces 16 n xs))
frames_among zero every count [] size = ([], tt, refl)
frames_among zero every count (x ∷ xs) size = absurd (omega arith)
frames_among (suc n) every count xs size =
    let first = take 16 xs in
    let long : length (take 16 xs) ≡ 16 = omega (arith, length-take 16 xs) in
    let rest = frames_among n every (count + 1) (drop 16 xs) (omega (arith, length-drop 16 xs)) in
    let in_frame = pairs_among 8 0 first (drop 16 xs) (synced_frames every (count + 1) (pieces 16 n (drop 16 xs))) long rest (lit< tt) in
    let whole = subst (λ ys. Interspersed 0 ys (first ++ synced_frames every (count + 1) (pieces 16 n (drop 16 xs)))) (take-append-drop 16 xs) in_frame in
    let others = synced_frames every (count + 1) (pieces 16 n (drop 16 xs)) in
    subst (Interspersed 0 xs) (sym (append_assoc (if count % every == 0 then full_sync else []) first others))
    (maybe_sync_first (count % every == 0) xs (first ++ others) whole)

begins : (every : ℕ) (frame bytes : List ℕ) → 0 < every → synced_frame (0 % every == 0) frame ++ bytes ≡ full_sync ++ (frame ++ bytes)
begins every frame bytes some = let zero_is : 0 % every ≡ 0 = omega arith in rw zero_is refl

behind_first_sync : (every n : ℕ) (frames : List ℕ) → suc n * 16 ≡ length frames
    → Interspersed 0 frames (take 16 frames ++ synced_frames every 1 (pieces 16 n (drop 16 frames)))
behind_first_sync every n xs size =
    let first = take 16 xs in
    let long : length (take 16 xs) ≡ 16 = omega (arith, length-take 16 xs) in
    let rest = frames_among n every 1 (drop 16 xs) (omega (arith, length-drop 16 xs)) in
    let in_frame = pairs_among 8 0 first (drop 16 xs) (synced_frames every 1 (pieces 16 n (drop 16 xs))) long rest (lit< tt) in
    subst (λ ys. Interspersed 0 ys (first ++ synced_frames every 1 (pieces 16 n (drop 16 xs)))) (take-append-drop 16 xs) in_frame

synced_is : (every n : ℕ) (frames : List ℕ) → 0 < every → n * 16 ≡ length frames → 0 < n → Synced frames (synced_frames every 0 (pieces 16 n frames))
synced_is every zero frames every_some size some = absurd (omega arith)
synced_is every (suc n) frames every_some size some =
    let rest = synced_frames every 1 (pieces 16 n (drop 16 frames)) in
    record {
      junk = [];
      behind = take 16 frames ++ rest;
      parts = begins every (take 16 frames) rest every_some;
      earliest = λ before after is. omega arith;
      interspersed = behind_first_sync every n frames size;
    }

some_frames : (frames : List ℕ) → length frames % 16 ≡ 0 → frames ≢ [] → 0 < length frames / 16
some_frames [] whole none = absurd (none refl)
some_frames (x ∷ xs) whole none = omega arith

pub written_is : (every : ℕ) (frames : List ℕ) → 0 < every → length frames % 16 ≡ 0 → frames ≢ [] → Synced frames (synced_every every frames)
written_is every frames some whole none =
    synced_is every (length frames / 16) frames some (omega (arith, div-add-mod' (length frames) 16)) (some_frames frames whole none)

-- ---- they come back

framed_whole : (pairs : List (ℕ × ℕ)) → length (framed pairs) % 16 ≡ 0
framed_whole pairs = sym (length-left_over 16 (framed pairs)) ∙ ap length (nothing_left pairs)

even_drop : (m : ℕ) (xs : List ℕ) → m % 2 ≡ 0 → NoFFAtEven xs → NoFFAtEven (drop m xs)
even_drop zero xs even none = none
even_drop (suc zero) xs even none = absurd (omega (arith, even))
even_drop (suc (suc m)) [] even none = tt
even_drop (suc (suc m)) (a ∷ []) even none = tt
even_drop (suc (suc m)) (a ∷ b ∷ xs) even none = even_drop m xs (omega (arith, even)) none.1

synced_back : (every : ℕ) (frames : List ℕ) → 0 < every → length frames % 16 ≡ 0 → NoFFAtEven frames → unsynced (synced_every every frames) ≡ frames
synced_back every [] some whole none = refl
synced_back every (x ∷ xs) some whole none =
    come_back (x ∷ xs) (synced_every every (x ∷ xs)) none (written_is every (x ∷ xs) some whole (λ empty. absurd (omega (arith, ap length empty))))

pub later_frames_back : (every k : ℕ) (pairs : List (ℕ × ℕ)) → 0 < every → All IsSourcePair pairs
    → unsynced (synced_every every (drop (16 * k) (framed pairs))) ≡ drop (16 * k) (framed pairs)
later_frames_back every k pairs some sources =
    synced_back every (drop (16 * k) (framed pairs)) some (omega (arith, framed_whole pairs, length-drop (16 * k) (framed pairs)))
    (even_drop (16 * k) (framed pairs) (omega arith) (framed_not_ff pairs sources))

-- ---- frame by frame

-- one frame more
pub one_frame : (every k n : ℕ) (xs done : List ℕ) → k < n
    → synced_frames every 0 (pieces 16 n xs) ≡ done ++ synced_frames every k (pieces 16 (n - k) (drop (16 * k) xs))
    → synced_frames every 0 (pieces 16 n xs)
    ≡ (done ++ synced_frame (k % every == 0) (take 16 (drop (16 * k) xs))) ++ synced_frames every (k + 1) (pieces 16 (n - (k + 1)) (drop (16 * (k + 1)) xs))
one_frame every k n xs done more so_far =
    let left : n - k ≡ suc (n - (k + 1)) = omega arith in
    let behind : 16 * (k + 1) ≡ 16 * k + 16 = omega arith in
    so_far
    ∙ ap (λ m. done ++ synced_frames every k (pieces 16 m (drop (16 * k) xs))) left
    ∙ ap (λ ys. done ++ (synced_frame (k % every == 0) (take 16 (drop (16 * k) xs)) ++ synced_frames every (k + 1) (pieces 16 (n - (k + 1)) ys)))
    (drop-drop 16 (16 * k) xs ∙ ap (λ m. drop m xs) (sym behind))
    ∙ sym (append_assoc done (synced_frame (k % every == 0) (take 16 (drop (16 * k) xs)))
    (synced_frames every (k + 1) (pieces 16 (n - (k + 1)) (drop (16 * (k + 1)) xs))))

-- a write failed: some of it is appended
pub first_failed : {T E : Type 0} (result : Result T E) (old new : IoState) (is_synced : Bool) (frame : List ℕ) → is_synced ≡ true
    → AppendsShorter old new full_sync → OnErr result (AppendsShorter old new (synced_frame is_synced frame))
first_failed (Ok _) old new is_synced frame is some = tt
first_failed (Err _) old new is_synced frame is some = rw is (shorter_first old new full_sync frame some)

pub second_failed : {T E : Type 0} (result : Result T E) (old mid new : IoState) (is_synced : Bool) (frame : List ℕ) → is_synced ≡ true
    → AppendsAll old mid full_sync → OnErr result (AppendsShorter mid new frame) → OnErr result (AppendsShorter old new (synced_frame is_synced frame))
second_failed (Ok _) old mid new is_synced frame is all some = tt
second_failed (Err _) old mid new is_synced frame is all some = rw is (shorter_second old mid new full_sync frame all some)

pub only_failed : {T E : Type 0} (result : Result T E) (old new : IoState) (is_synced : Bool) (frame : List ℕ) → is_synced ≡ false
    → OnErr result (AppendsShorter old new frame) → OnErr result (AppendsShorter old new (synced_frame is_synced frame))
only_failed (Ok _) old new is_synced frame is some = tt
only_failed (Err _) old new is_synced frame is some = rw is some

pub later_failed : {T E : Type 0} (result : Result T E) (old mid new : IoState) (all done frame rest : List ℕ) → all ≡ (done ++ frame) ++ rest
    → AppendsAll old mid done → AppendsShorter mid new frame → OnErr result (AppendsShorter old new all)
later_failed (Ok _) old mid new all done frame rest is first some = tt
later_failed (Err _) old mid new all done frame rest is first some =
    rw is (shorter_first old new (done ++ frame) rest (shorter_second old mid new done frame first some))

pub sixteen : (k : ℕ) (xs : List ℕ) → take (16 * k + 16 - 16 * k) (drop (16 * k) xs) ≡ take 16 (drop (16 * k) xs)
sixteen k xs = let size : 16 * k + 16 - 16 * k ≡ 16 = omega arith in ap (λ m. take m (drop (16 * k) xs)) size
