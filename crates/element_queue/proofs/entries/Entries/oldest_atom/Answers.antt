use Rattle.std.proofs.Common.{◌≡◌, ◌∷◌, [], Bool, List, None, Some, Option, ap, refl, slice_get, subst, sym, ◌∙◌}
use Rattle.std.specs.Prelude.{IfSome, IsSome}
use Rattle.std.specs.Option.{option_map}
use Rattle.std.proofs.lemmas.Option.{slice_get-map}
use Rattle.element_queue.specs.Kept.{Kept, entries_in}
use Rattle.element_queue.specs.Queued.{entry_of, plain_entry}
use Rattle.element_queue.specs.declared.entries.AtomsAndEntry.{AtomsAndEntry}
use Rattle.element_queue.specs.declared.queue.AtomEntry.{AtomEntry}
use Rattle.element_queue.proofs.EntryRuns.{first_at}
use Rattle.element_queue.proofs.Held.{if_some}
use Rattle.element_queue.proofs.entries.Entries.oldest_atom.Goals as goal

pub returns-in-Some-clause-value : goal.returns-in-Some-clause-value
returns-in-Some-clause-value c =
    let q = c.self.inside in
    let first : slice_get (entries_in (c.in-Some.run'.now ∷ []) []) 0 ≡ slice_get c.args.self.now.items 0 =
    sym (first_at q.runs.items c.in-Some.run'.now q.plain (sym c.in-Some.ensures.value)) ∙ ap (λ (k : Kept). slice_get k.items 0) c.self.view_is in
    if_some c.oldest_atom.result _ _ (λ atom told. sym first ∙ told []) c.oldest_atom.ensures.value

pub returns-in-Some-clause-some : goal.returns-in-Some-clause-some
returns-in-Some-clause-some c atom is =
    let q = c.self.inside in
    let first : slice_get (entries_in (c.in-Some.run'.now ∷ []) []) 0 ≡ slice_get c.args.self.now.items 0 =
    sym (first_at q.runs.items c.in-Some.run'.now q.plain (sym c.in-Some.ensures.value)) ∙ ap (λ (k : Kept). slice_get k.items 0) c.self.view_is in
    c.oldest_atom.ensures.some atom [] (first ∙ is)

-- there are no runs
plain_first : (runs : List AtomsAndEntry) (plain : List Bool) → None ≡ slice_get runs 0
    → slice_get (entries_in runs plain) 0 ≡ option_map plain_entry (slice_get plain 0)
plain_first [] plain none = slice_get-map plain_entry plain 0
plain_first (run ∷ runs) plain none = absurd cc

told_by : (r : Option Bool) → IfSome (option_map (λ (t : Bool). record { addr = None; taken = t }) r)
    (λ (atom : AtomEntry). option_map plain_entry r ≡ Some (entry_of atom))
told_by None = cc
told_by (Some taken) = refl

is_told : (r : Option Bool) (atom : AtomEntry) → option_map plain_entry r ≡ Some (entry_of atom)
    → IsSome {T = AtomEntry} (option_map (λ (t : Bool). record { addr = None; taken = t }) r)
is_told None atom e = absurd cc
is_told (Some taken) atom e = refl

pub returns-in-None-clause-value : goal.returns-in-None-clause-value
returns-in-None-clause-value c =
    let q = c.self.inside in
    let first = sym (ap (λ (k : Kept). slice_get k.items 0) c.self.view_is) ∙ plain_first q.runs.items q.plain c.in-None.ensures.value in
    subst (λ (r : Option AtomEntry). IfSome r (λ atom. slice_get c.args.self.now.items 0 ≡ Some (entry_of atom))) (sym c.plain_atom_of.ensures)
    (if_some (option_map (λ (t : Bool). record { addr = None; taken = t }) c.get-in-None.result) _ _
    (λ atom told. first ∙ ap (option_map plain_entry) (sym c.get-in-None.ensures) ∙ told) (told_by c.get-in-None.result))

pub returns-in-None-clause-some : goal.returns-in-None-clause-some
returns-in-None-clause-some c atom is =
    let q = c.self.inside in
    let first = sym (ap (λ (k : Kept). slice_get k.items 0) c.self.view_is) ∙ plain_first q.runs.items q.plain c.in-None.ensures.value in
    subst IsSome (sym c.plain_atom_of.ensures)
    (is_told c.get-in-None.result atom (ap (option_map plain_entry) c.get-in-None.ensures ∙ sym first ∙ is))
