-- What is left to do, one thing or element after the other.
use Rattle.std.proofs.Common.{◌≡◌, ℕ, List, [], ◌∷◌, ◌++◌, Option, Some, None, Result, Ok, Err, refl, sym, ap, subst, ◌∙◌, inl, inr, append_assoc, append-nil}
use Rattle.std.specs.Prelude.{option_to_list}
use Rattle.element_queue.specs.Counting.{counts_after, made_by, tally, tally_step}
use Rattle.element_queue.specs.Pending.{Gone, Pending, Taken, taken}
use Rattle.element_queue.specs.declared.ledger.Counts.{Counts}
use Rattle.etm_types.specs.declared.element.Elem.{Elem}
use Rattle.etm_types.specs.declared.element.Thing.{Thing}
use Rattle.etm_types.specs.declared.item.Item.{Item}
use Rattle.etm_types.specs.declared.queue_fault.QueueFault.{QueueFault}
use Rattle.etm_types.specs.declared.walk_fault.WalkFault.{WalkFault}
use Rattle.packet_grammar.specs.declared.stream_fault.Fault.{Fault}
use Rattle.packet_grammar.specs.declared.stream_fault.Fault.TheVariants.{Queue, Walk}
use Rattle.path_elements.specs.Elements.{with_offset}
use Rattle.path_elements.specs.Path.{unplaced}
use Rattle.path_elements.specs.Running.{Outcome, TakesSo, walked}
use Rattle.path_walker.proofs.Joined.{fault_stays, parts_join}
use Rattle.path_walker.specs.State.{State}
use Rattle.path_walker.specs.Things.{Walks}
use Rattle.program_image.specs.declared.image.Image.{Image}
use Rattle.stream_decoder.specs.Decoding.{AtRest, Decoding, counted, depth_of}
use Rattle.stream_decoder.specs.Yields.{Ends, Goes, Leaves, LeavesBy, Refuses, Stops, TakesAll, Yields, YieldsFrom, outcome_at}

-- ---- offsets

pub placed_append : (at : ℕ) (xs ys : List Elem) → with_offset at (xs ++ ys) ≡ with_offset at xs ++ with_offset at ys
placed_append at [] ys = refl
placed_append at (x ∷ xs) ys = ap (λ (l : List (ℕ × Elem)). (at, x) ∷ l) (placed_append at xs ys)

pub unplaced_placed : (at : ℕ) (xs : List Elem) (ys : List (ℕ × Elem)) → unplaced (with_offset at xs ++ ys) ≡ xs ++ unplaced ys
unplaced_placed at [] ys = refl
unplaced_placed at (x ∷ xs) ys = ap (λ (l : List Elem). x ∷ l) (unplaced_placed at xs ys)

-- ---- elements that are taken without a fault

takes_append : (depth : ℕ) (p q r : Pending) (c d e : Counts) (xs ys : List Elem) → TakesAll depth p c xs q d → TakesAll depth q d ys r e
    → TakesAll depth p c (xs ++ ys) r e
takes_append depth p q r c d e [] ys t u =
    subst (λ (k : Counts). TakesAll depth p k ys r e) t.1 (subst (λ (n : Pending). TakesAll depth n d ys r e) t.0 u)
takes_append depth p q r c d e (x ∷ xs) ys t u =
    (t.0, t.1, t.2, takes_append depth t.0 q r (counts_after c (made_by x) t.1) d e xs ys t.3 u)

pub tally_on : (depth : ℕ) (p q : Pending) (c d : Counts) (xs ys : List Elem) → TakesAll depth p c xs q d
    → tally depth p c (xs ++ ys) ≡ tally depth q d ys
tally_on depth p q c d [] ys t = sym (ap (λ (k : Counts). tally depth q k ys) t.1 ∙ ap (λ (n : Pending). tally depth n c ys) t.0)
tally_on depth p q c d (x ∷ xs) ys t =
    ap (λ (k : Taken). tally_step c x k (λ (n : Pending) (m : Counts). tally depth n m (xs ++ ys))) t.2
    ∙ tally_on depth t.0 q (counts_after c (made_by x) t.1) d xs ys t.3

-- ---- one thing or element

-- where what was to do next is done, what is left leads on
leads_by : (image : Image) (depth at : ℕ) (p p' : Pending) (w w' : State) (due due' xs : List Thing) (todo todo' : List Elem) (items : List Item)
    → (due ≡ xs ++ due') → (p' ≡ p) → (todo ≡ todo') → Walks image w xs items (Ok w')
    → (rest : List Item) (outcome : Outcome) (more : List (ℕ × Elem)) → YieldsFrom image depth at p' w' due' todo' rest outcome more
    → YieldsFrom image depth at p w due todo (items ++ rest) outcome more
leads_by image depth at p p' w w' due due' xs todo todo' items is same still walks rest outcome more yields =
    rw is (rw still (
    let here : YieldsFrom image depth at p w' due' todo' rest outcome more =
    subst (λ (n : Pending). YieldsFrom image depth at n w' due' todo' rest outcome more) same yields in
    elim here [
      | inl y ↦ inl (
        items ++ y.0,
        y.1,
        y.2,
        parts_join image w w' xs due' items y.0 (Ok y.2) walks y.3,
        y.4,
        ap (λ (l : List Item). items ++ l) y.5 ∙ sym (append_assoc items y.0 y.1),
      )
      | inr y ↦ inr (y.0, parts_join image w w' xs due' items rest (Err y.0) walks y.1, y.2, y.3)
    ]))

-- an element that was taken, and the front of what it commits was walked
takes_by : (image : Image) (depth : ℕ) (e : Elem) (p p' : Pending) (w : State) (gone : Gone) (items : List Item) (r : Result State WalkFault)
    → taken depth p e ≡ Ok (p', gone) → Walks image w gone.committed items r → TakesSo image (taken depth p e) w items (walked p' r)
takes_by image depth e p p' w gone items r rule walks = subst (λ (t : Taken). TakesSo image t w items (walked p' r)) (sym rule) (r, walks, refl)

leads_by_element : (image : Image) (depth at : ℕ) (e : Elem) (p p' : Pending) (w w' : State) (due' xs : List Thing) (todo' : List Elem) (gone : Gone)
    (items : List Item)
    → taken depth p e ≡ Ok (p', gone) → (gone.committed ≡ xs ++ due') → Walks image w xs items (Ok w')
    → (rest : List Item) (outcome : Outcome) (more : List (ℕ × Elem)) → YieldsFrom image depth at p' w' due' todo' rest outcome more
    → YieldsFrom image depth at p w [] (e ∷ todo') (items ++ rest) outcome ((at, e) ∷ more)
leads_by_element image depth at e p p' w w' due' xs todo' gone items rule is walks rest outcome more (inl y) =
    let all : Walks image w gone.committed (items ++ y.0) (Ok y.2) =
    subst (λ (l : List Thing). Walks image w l (items ++ y.0) (Ok y.2)) (sym is) (parts_join image w w' xs due' items y.0 (Ok y.2) walks y.3) in
    inl (
      [],
      items ++ rest,
      w,
      (refl, refl),
      inr (
        items ++ y.0,
        y.1,
        (p', y.2),
        more,
        takes_by image depth e p p' w gone (items ++ y.0) (Ok y.2) rule all,
        y.4,
        ap (λ (l : List Item). items ++ l) y.5 ∙ sym (append_assoc items y.0 y.1),
        refl,
      ),
      refl,
    )
leads_by_element image depth at e p p' w w' due' xs todo' gone items rule is walks rest outcome more (inr y) =
    let all : Walks image w gone.committed (items ++ rest) (Err y.0) =
    subst (λ (l : List Thing). Walks image w l (items ++ rest) (Err y.0)) (sym is) (parts_join image w w' xs due' items rest (Err y.0) walks y.1) in
    inl (
      [],
      items ++ rest,
      w,
      (refl, refl),
      inl (Walk y.0, takes_by image depth e p p' w gone (items ++ rest) (Err y.0) rule all, y.2, ap (λ (l : List (ℕ × Elem)). (at, e) ∷ l) y.3),
      refl,
    )

-- the same, whichever it was
leads_so : (image : Image) (d : Decoding) (p' : Pending) (w' : State) (due' xs : List Thing) (took todo' : List Elem) (items : List Item)
    → (d.todo ≡ took ++ todo') → LeavesBy d took p' (xs ++ due') → Walks image d.walk xs items (Ok w')
    → (rest : List Item) (outcome : Outcome) (more : List (ℕ × Elem)) → YieldsFrom image (depth_of d) d.at p' w' due' todo' rest outcome more
    → Yields image d (items ++ rest) outcome (with_offset d.at took ++ more)
leads_so image d p' w' due' xs [] todo' items still by walks rest outcome more yields =
    leads_by image (depth_of d) d.at d.pending p' d.walk w' d.due due' xs d.todo todo' items by.0 by.1 still walks rest outcome more yields
leads_so image d p' w' due' xs (e ∷ []) todo' items still by walks rest outcome more yields =
    rw by.0 (rw still (leads_by_element image (depth_of d) d.at e d.pending p' d.walk w' due' xs todo' (by.1).0 items (by.1).1 (by.1).2 walks rest
    outcome more yields))
leads_so image d p' w' due' xs (e ∷ f ∷ took) todo' items still by walks rest outcome more yields = absurd by

-- what is taken by one of these steps is taken without a fault
takes_so : (d : Decoding) (p' : Pending) (things : List Thing) (took : List Elem) (c' : Counts) → LeavesBy d took p' things
    → c' ≡ tally (depth_of d) d.pending (counted d) took → TakesAll (depth_of d) d.pending (counted d) took p' c'
takes_so d p' things [] c' by counts = (by.1, counts)
takes_so d p' things (e ∷ []) c' by counts = (
  p',
  (by.1).0,
  (by.1).1,
  (
    refl,
    counts ∙ ap (λ (k : Taken). tally_step (counted d) e k (λ (n : Pending) (m : Counts). tally (depth_of d) n m [])) (by.1).1,
  ),
)
takes_so d p' things (e ∷ f ∷ took) c' by counts = absurd by

pub goes_by_leaving : (image : Image) (d m d' : Decoding) (thing : Option Thing) (items : List Item) → Leaves d m thing
    → Walks image m.walk (option_to_list thing) items (Ok d'.walk) → d' ≡ record m { walk = d'.walk } → Goes image d items d'
goes_by_leaving image d m d' thing items l walks is =
    let w = d'.walk in
    let walks' : Walks image d.walk (option_to_list thing) items (Ok w) =
    subst (λ (v : State). Walks image v (option_to_list thing) items (Ok w)) (ap (λ (x : Decoding). x.walk) l.rest) walks in
    let same : m ≡ record d { pending = m.pending; due = m.due; todo = m.todo; counts = m.counts } = l.rest in
    let is' : d' ≡ record d { pending = m.pending; due = m.due; walk = w; todo = m.todo; counts = m.counts } =
    is ∙ ap (λ (x : Decoding). record x { walk = w }) same in
    subst (λ (x : Decoding). Goes image d items x) (sym is') (record {
      took = l.took;
      todo = l.todo;
      takes = takes_so d m.pending (option_to_list thing ++ m.due) l.took (counted m) l.commits l.counts;
      leads = leads_so image d m.pending w m.due (option_to_list thing) l.took m.todo items l.todo l.commits walks';
      rest = refl;
    })

-- ---- one after the other

pub goes_nowhere : (image : Image) (d : Decoding) → Goes image d [] d
goes_nowhere image d = record { took = []; todo = refl; takes = (refl, refl); leads = λ rest outcome more yields. yields; rest = refl }

pub goes_on : (image : Image) (d m d' : Decoding) (items others : List Item) → Goes image d items m → Goes image m others d'
    → Goes image d (items ++ others) d'
goes_on image d m d' items others a b =
    let depth : depth_of m ≡ depth_of d = ap depth_of a.rest in
    let at : m.at ≡ d.at = ap (λ (x : Decoding). x.at) a.rest in
    let takes : TakesAll (depth_of d) m.pending (counted m) b.took d'.pending (counted d') =
    subst (λ (n : ℕ). TakesAll n m.pending (counted m) b.took d'.pending (counted d')) depth b.takes in
    record {
      took = a.took ++ b.took;
      todo = a.todo ∙ ap (λ (l : List Elem). a.took ++ l) b.todo ∙ sym (append_assoc a.took b.took d'.todo);
      takes = takes_append (depth_of d) d.pending m.pending d'.pending (counted d) (counted m) (counted d') a.took b.took a.takes takes;
      leads = λ rest outcome more yields.
          let first : Yields image d (items ++ (others ++ rest)) outcome (with_offset d.at a.took ++ (with_offset m.at b.took ++ more)) =
          a.leads (others ++ rest) outcome (with_offset m.at b.took ++ more) (b.leads rest outcome more yields) in
          let joined : with_offset d.at a.took ++ (with_offset m.at b.took ++ more) ≡ with_offset d.at (a.took ++ b.took) ++ more =
          ap (λ (n : ℕ). with_offset d.at a.took ++ (with_offset n b.took ++ more)) at ∙ sym (append_assoc (with_offset d.at a.took) (with_offset d.at b.took) more)
          ∙ ap (λ (l : List (ℕ × Elem)). l ++ more) (sym (placed_append d.at a.took b.took)) in
          subst (λ (l : List (ℕ × Elem)). Yields image d ((items ++ others) ++ rest) outcome l) joined
          (subst (λ (l : List Item). Yields image d l outcome (with_offset d.at a.took ++ (with_offset m.at b.took ++ more)))
          (sym (append_assoc items others rest)) first);
      rest = b.rest ∙ ap (λ (x : Decoding). record x { pending = d'.pending; due = d'.due; walk = d'.walk; todo = d'.todo; counts = d'.counts }) a.rest;
    }

pub goes_to_end : (image : Image) (d m d' : Decoding) (items others : List Item) → Goes image d items m → Ends image m others d'
    → Ends image d (items ++ others) d'
goes_to_end image d m d' items others a b =
    let depth : depth_of m ≡ depth_of d = ap depth_of a.rest in
    let took = with_offset d.at a.took ++ b.took in
    let tallied : tally (depth_of m) m.pending (counted m) (unplaced b.took) ≡ tally (depth_of d) d.pending (counted d) (unplaced took) =
    ap (λ (n : ℕ). tally n m.pending (counted m) (unplaced b.took)) depth
    ∙ sym (ap (tally (depth_of d) d.pending (counted d)) (unplaced_placed d.at a.took b.took)
    ∙ tally_on (depth_of d) d.pending m.pending (counted d) (counted m) a.took (unplaced b.took) a.takes) in
    record {
      took = took;
      leads = a.leads others _ b.took b.leads;
      done = b.done;
      made = b.made ∙ ap (λ (c : Counts). c.made) tallied;
      counts = λ free. b.counts free ∙ tallied;
      rest = b.rest
          ∙ ap (λ (x : Decoding). record x { pending = d'.pending; due = []; walk = d'.walk; todo = []; fault = d'.fault; counts = d'.counts }) a.rest;
    }

-- ---- the end

same_took : (at : ℕ) (took : List Elem) → took ≡ unplaced (with_offset at took)
same_took at took = sym (ap unplaced (sym (append-nil (with_offset at took))) ∙ unplaced_placed at took [] ∙ append-nil took)

at_rest : (d : Decoding) → AtRest d → d ≡ record d { due = []; todo = [] }
at_rest d done = ap (λ (l : List Thing). record d { due = l }) done.due ∙ ap (λ (l : List Elem). record d { due = []; todo = l }) done.todo

yields_nothing : (image : Image) (d : Decoding) → AtRest d → Yields image d [] (Ok (d.pending, d.walk)) []
yields_nothing image d done = rw done.due (rw done.todo (inl ([], [], d.walk, (refl, refl), (refl, refl, refl), refl)))

-- the next element has a fault: it is taken, and nothing changes
pub stops_refused : (image : Image) (d : Decoding) (f : QueueFault) → d.counts ≡ counted d → Refuses d f → Stops image d (Queue f) d
stops_refused image d f none r =
    let e = r.element in
    let tallied : tally (depth_of d) d.pending (counted d) (e ∷ []) ≡ counted d =
    ap (λ (k : Taken). tally_step (counted d) e k (λ (n : Pending) (m : Counts). tally (depth_of d) n m [])) r.fault in
    let takes : TakesSo image (taken (depth_of d) d.pending e) d.walk [] (Err (Queue f)) =
    subst (λ (t : Taken). TakesSo image t d.walk [] (Err (Queue f))) (sym r.fault) (refl, refl) in
    record {
      took = e ∷ [];
      leads = rw r.due (rw r.todo (inl ([], [], d.walk, (refl, refl), inl (Queue f, takes, refl, refl), refl)));
      made = ap (λ (c : Counts). c.made) (none ∙ sym tallied);
      counts = λ free. none ∙ sym tallied;
      rest = refl;
    }

-- the walk of the oldest that is due, or of what an element commits, has a fault
halts_so : (image : Image) (d : Decoding) (p' : Pending) (due' : List Thing) (thing : Thing) (f : WalkFault) (took todo' : List Elem)
    → (d.todo ≡ took ++ todo') → LeavesBy d took p' (thing ∷ due') → Walks image d.walk (thing ∷ []) [] (Err f)
    → Yields image d [] (Err (d.at, Walk f)) (with_offset d.at took)
halts_so image d p' due' thing f [] todo' still by walks =
    rw by.0 (inr (f, fault_stays image d.walk (thing ∷ []) due' [] f walks, refl, refl))
halts_so image d p' due' thing f (e ∷ []) todo' still by walks =
    let all : Walks image d.walk ((by.1).0).committed [] (Err f) =
    subst (λ (l : List Thing). Walks image d.walk l [] (Err f)) (sym (by.1).2) (fault_stays image d.walk (thing ∷ []) due' [] f walks) in
    rw by.0 (rw still (inl (
      [],
      [],
      d.walk,
      (refl, refl),
      inl (Walk f, takes_by image (depth_of d) e d.pending p' d.walk (by.1).0 [] (Err f) (by.1).1 all, refl, refl),
      refl,
    )))
halts_so image d p' due' thing f (e ∷ g ∷ took) todo' still by walks = absurd by

pub stops_walking : (image : Image) (d m : Decoding) (thing : Thing) (f : WalkFault) → Leaves d m (Some thing)
    → Walks image m.walk (thing ∷ []) [] (Err f) → Stops image d (Walk f) m
stops_walking image d m thing f l walks =
    let walks' : Walks image d.walk (thing ∷ []) [] (Err f) =
    subst (λ (v : State). Walks image v (thing ∷ []) [] (Err f)) (ap (λ (x : Decoding). x.walk) l.rest) walks in
    record {
      took = l.took;
      leads = halts_so image d m.pending m.due thing f l.took m.todo l.todo l.commits walks';
      made = ap (λ (c : Counts). c.made) l.counts;
      counts = λ free. absurd cc;
      rest = l.rest ∙ ap (λ (w : State). record d { pending = m.pending; due = m.due; walk = w; todo = m.todo; counts = m.counts })
          (sym (ap (λ (x : Decoding). x.walk) l.rest));
    }

pub ends_at_rest : (image : Image) (d : Decoding) → d.fault ≡ None → d.counts ≡ counted d → AtRest d → Ends image d [] d
ends_at_rest image d none still done =
    record {
      took = [];
      leads = subst (λ (f : Option (ℕ × Fault)). Yields image d [] (outcome_at f d.pending d.walk) []) (sym none) (yields_nothing image d done);
      done = done;
      made = ap (λ (c : Counts). c.made) still;
      counts = λ free. still;
      rest = at_rest d done;
    }

-- what is left is not done any more
pub ends_stopped : (image : Image) (d m d' : Decoding) (f : Fault) → Stops image d f m
    → d' ≡ record m { pending = record (m.pending) { held = m.due ++ (m.pending).held }; due = []; todo = []; fault = Some (m.at, f) }
    → Ends image d [] d'
ends_stopped image d m d' f s is =
    let at : m.at ≡ d.at = ap (λ (x : Decoding). x.at) s.rest in
    subst (λ (x : Decoding). Ends image d [] x) (sym is) (record {
      took = with_offset d.at s.took;
      leads = subst (λ (n : ℕ). Yields image d [] (Err (n, f)) (with_offset d.at s.took)) (sym at) s.leads;
      done = record { due = refl; todo = refl };
      made = s.made ∙ ap (λ (l : List Elem). (tally (depth_of d) d.pending (counted d) l).made) (same_took d.at s.took);
      counts = λ free. s.counts free ∙ ap (tally (depth_of d) d.pending (counted d)) (same_took d.at s.took);
      rest = ap (λ (x : Decoding). record x {
        pending = record (m.pending) { held = m.due ++ (m.pending).held };
        due = [];
        walk = m.walk;
        todo = [];
        fault = Some (m.at, f);
        counts = m.counts;
      }) s.rest;
    })
