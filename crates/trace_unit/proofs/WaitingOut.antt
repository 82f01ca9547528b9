-- What waits is written packet by packet.
use Rattle.std.proofs.Common.{◌≡◌, ℕ, zero, suc, ◌+◌, ◌-◌, ◌<◌, ◌≤◌, Bool, true, false, List, [], ◌∷◌, ◌++◌, length, get_or, take, drop}
use Rattle.std.proofs.Common.{refl, sym, ap, subst, ◌∙◌, inl, inr, arith, append_assoc}
use Rattle.std.specs.Prelude.{nat_le}
use Rattle.std.proofs.lemmas.Bool.{cases_Bool, eq-eqb}
use Rattle.std.proofs.lemmas.Bool.Decides.{nat_tests}
use Rattle.std.proofs.lemmas.List.{length-drop, length-take-le, take-append-drop, take_all, take_more}
use Rattle.std.proofs.lemmas.List.Concat.{flat_map-append}
use Rattle.etm_types.specs.Settings.{Sizes}
use Rattle.packet_grammar.specs.declared.packet.Packet.{Packet}
use Rattle.packet_writer.specs.Spelling.{spelling}
use Rattle.trace_unit.proofs.Out.{none_left, none_out}
use Rattle.trace_unit.proofs.WaitingFront.{longest_is}
use Rattle.trace_unit.specs.Packets.{front_packet, packed, packed_within, spilled_packets}
use Rattle.trace_unit.specs.Packing.{longest}
use Rattle.trace_unit.specs.Room.{Affords}
use Rattle.trace_unit.specs.Whole.{PutOff, cancelled_out, is_full, out, some_out, spilled, wrote, wrote_all}
use Rattle.trace_unit.specs.Written.{spelled}

-- ---- one P0 element

-- so many elements more are held or committed
pub record Wrote (depth n : ℕ) (u v : PutOff) : Type 0 where
  pub held : v.held ≤ depth
  pub balance : v.commits + (u.held + n) ≡ u.commits + v.held

pub wrote_one : (depth : ℕ) (u : PutOff) → u.held ≤ depth → u.held + 1 ≤ depth + u.commits → Wrote depth 1 u (wrote depth u)
wrote_one depth u held place = elim (cases_Bool (nat_le (u.held + 1) depth)) [
  | inl t ↦
      let le : u.held + 1 ≤ depth = grind (arith, nat_tests, t) in
      rw t (record { held = le; balance = omega arith })
  | inr f ↦
      let gt : depth ≤ u.held = grind (arith, nat_tests, f) in
      rw f (record { held = held; balance = omega (arith, gt, held, place) })
]

one_keeps : (depth : ℕ) (u : PutOff) → (wrote depth u).atoms ≡ u.atoms
one_keeps depth u = elim (cases_Bool (nat_le (u.held + 1) depth)) [ inl t ↦ simp t | inr f ↦ simp f ]

-- there is place for the others
pub one_placed : (depth n : ℕ) (u v : PutOff) → u.held ≤ depth → u.held + n ≤ depth + u.commits → 1 ≤ n → v ≡ wrote depth u
    → (v.held ≤ depth) × (v.held + (n - 1) ≤ depth + v.commits)
one_placed depth n u v held place some is =
    let one = wrote_one depth u held (omega (arith, place, some)) in
    let after : (wrote depth u).held + (n - 1) ≤ depth + (wrote depth u).commits = omega (arith, one.balance, place, some) in
    subst (λ (w : PutOff). (w.held ≤ depth) × (w.held + (n - 1) ≤ depth + w.commits)) (sym is) (one.held, after)

-- ---- so many

pub wrote_some : (depth : ℕ) (atoms : List Bool) (u : PutOff) → u.held ≤ depth → u.held + length atoms ≤ depth + u.commits
    → Wrote depth (length atoms) u (wrote_all depth atoms u)
wrote_some depth [] u held place = record { held = held; balance = omega arith }
wrote_some depth (a ∷ atoms) u held place =
    let one = wrote_one depth u held (omega (arith, place)) in
    let rest = wrote_some depth atoms (wrote depth u) one.held (omega (arith, place, one.balance)) in
    record { held = rest.held; balance = omega (arith, rest.balance, one.balance) }

-- the atoms stay
pub some_keep : (depth : ℕ) (atoms : List Bool) (u : PutOff) → (wrote_all depth atoms u).atoms ≡ u.atoms
some_keep depth [] u = refl
some_keep depth (a ∷ atoms) u = some_keep depth atoms (wrote depth u) ∙ one_keeps depth u

wrote_append : (depth : ℕ) (some more : List Bool) (u : PutOff) → wrote_all depth (some ++ more) u ≡ wrote_all depth more (wrote_all depth some u)
wrote_append depth [] more u = refl
wrote_append depth (a ∷ some) more u = wrote_append depth some more (wrote depth u)

-- one more of them
pub wrote_more : (depth i : ℕ) (atoms : List Bool) (u v : PutOff) → i < length atoms → v ≡ wrote_all depth (take i atoms) u
    → wrote depth v ≡ wrote_all depth (take (i + 1) atoms) u
wrote_more depth i atoms u v less is =
    ap (wrote depth) is ∙ sym (wrote_append depth (take i atoms) (get_or atoms i false ∷ []) u)
    ∙ sym (ap (λ l. wrote_all depth l u) (take_more atoms i false less))

-- whichever atoms are held
wrote_aside : (depth : ℕ) (others : List Bool) (u : PutOff) → wrote depth (record u { atoms = others }) ≡ record (wrote depth u) { atoms = others }
wrote_aside depth others u = elim (cases_Bool (nat_le (u.held + 1) depth)) [ inl t ↦ simp t | inr f ↦ simp f ]

wrote_beside : (depth : ℕ) (atoms others : List Bool) (u : PutOff)
    → wrote_all depth atoms (record u { atoms = others }) ≡ record (wrote_all depth atoms u) { atoms = others }
wrote_beside depth [] others u = refl
wrote_beside depth (a ∷ atoms) others u = ap (wrote_all depth atoms) (wrote_aside depth others u) ∙ wrote_beside depth atoms others (wrote depth u)

-- ---- some atoms after others

none_cancelled : (u : PutOff) → u.cancels ≡ 0 → cancelled_out u ≡ u
none_cancelled u none =
    let held : u.held - u.cancels ≡ u.held = omega (arith, none) in
    ap (λ n. record u { cancels = 0; held = n }) held ∙ ap (λ n. record u { cancels = n }) (sym none)

-- what is to be cancelled goes out once
pub after_cancel : (depth n : ℕ) (u : PutOff) → some_out depth n (cancelled_out u) ≡ some_out depth n u
after_cancel depth n u =
    ap (λ (v : PutOff). record (wrote_all depth (take n u.atoms) v) { atoms = drop n u.atoms }) (none_cancelled (cancelled_out u) refl)

out_is : (depth : ℕ) (u : PutOff) → out depth u ≡ record (wrote_all depth u.atoms (cancelled_out u)) { atoms = [] }
out_is depth u =
    ap (λ l. record (wrote_all depth l (cancelled_out u)) { atoms = drop (length u.atoms) u.atoms }) (take_all (length u.atoms) u.atoms (omega arith))
    ∙ ap (λ l. record (wrote_all depth u.atoms (cancelled_out u)) { atoms = l }) (none_left u)

-- all are out where some are, and then the others
pub after_some : (depth n : ℕ) (u : PutOff) → out depth (some_out depth n u) ≡ out depth u
after_some depth n u =
    let first : PutOff = wrote_all depth (take n u.atoms) (cancelled_out u) in
    let rest : List Bool = drop n u.atoms in
    out_is depth (some_out depth n u)
    ∙ ap (λ (v : PutOff). record (wrote_all depth rest v) { atoms = [] }) (none_cancelled (some_out depth n u) (none_out depth n u))
    ∙ ap (λ (v : PutOff). record v { atoms = [] })
    (wrote_beside depth rest rest first ∙ ap (λ (v : PutOff). record v { atoms = rest })
    (sym (wrote_append depth (take n u.atoms) rest (cancelled_out u)) ∙ ap (λ l. wrote_all depth l (cancelled_out u)) (take-append-drop n u.atoms)))
    ∙ sym (out_is depth u)

pub nothing_left : (depth : ℕ) (u : PutOff) → u.atoms ≡ [] → u.cancels ≡ 0 → out depth u ≡ u
nothing_left depth u empty none =
    out_is depth u ∙ ap (λ (v : PutOff). record (wrote_all depth u.atoms v) { atoms = [] }) (none_cancelled u none)
    ∙ ap (λ l. record (wrote_all depth l u) { atoms = [] }) empty ∙ ap (λ l. record u { atoms = l }) (sym empty)

-- where nothing is to be cancelled
pub some_gone : (depth n : ℕ) (u v : PutOff) → u.cancels ≡ 0 → v ≡ wrote_all depth (take n u.atoms) u → v.atoms ≡ u.atoms
    → record v { atoms = drop n v.atoms } ≡ some_out depth n u
some_gone depth n u v none is atoms =
    ap (λ l. record v { atoms = drop n l }) atoms ∙ ap (λ (w : PutOff). record w { atoms = drop n u.atoms }) is
    ∙ ap (λ (w : PutOff). record (wrote_all depth (take n u.atoms) w) { atoms = drop n u.atoms }) (sym (none_cancelled u none))

-- ---- there is place for each

pub cancelled_affords : (depth : ℕ) (u : PutOff) → Affords depth u → Affords depth (cancelled_out u)
cancelled_affords depth u a =
    record { held = omega (arith, a.held); cancels = omega arith; atoms = a.atoms; place = omega (arith, a.cancels, a.place) }

pub some_wrote : (depth n : ℕ) (u : PutOff) → n ≤ length u.atoms → Affords depth u
    → Wrote depth n (cancelled_out u) (wrote_all depth (take n u.atoms) (cancelled_out u))
some_wrote depth n u le a =
    let v : PutOff = cancelled_out u in
    let b = cancelled_affords depth u a in
    let size : length (take n u.atoms) ≡ n = length-take-le n u.atoms le in
    subst (λ m. Wrote depth m v (wrote_all depth (take n u.atoms) v)) size
    (wrote_some depth (take n u.atoms) v b.held (omega (arith, size, le, b.place)))

pub some_affords : (depth n : ℕ) (u : PutOff) → n ≤ length u.atoms → Affords depth u → Affords depth (some_out depth n u)
some_affords depth n u le a =
    let w = some_wrote depth n u le a in
    let b = cancelled_affords depth u a in
    let rest = length-drop n u.atoms in
    record {
      held = w.held;
      cancels = omega (arith, none_out depth n u);
      atoms = omega (arith, rest, a.atoms);
      place = omega (arith, w.balance, b.place, rest, le);
    }

-- what is to be committed is held
pub out_holds : (depth : ℕ) (u : PutOff) → Affords depth u → u.commits + u.cancels ≤ u.held + length u.atoms → (out depth u).commits ≤ (out depth u).held
out_holds depth u a le =
    let w = some_wrote depth (length u.atoms) u (omega arith) a in
    omega (arith, w.balance, a.cancels, le)

-- ---- the packets

packed_enough : (m n : ℕ) (atoms : List Bool) → length atoms ≤ m → length atoms ≤ n → packed_within m atoms ≡ packed_within n atoms
packed_enough zero zero atoms le fits = refl
packed_enough zero (suc n) [] le fits = refl
packed_enough zero (suc n) (a ∷ atoms) le fits = absurd (omega (arith, le))
packed_enough (suc m) zero [] le fits = refl
packed_enough (suc m) zero (a ∷ atoms) le fits = absurd (omega (arith, fits))
packed_enough (suc m) (suc n) [] le fits = refl
packed_enough (suc m) (suc n) (a ∷ atoms) le fits =
    let some = longest_is (a ∷ atoms) (omega arith) in
    let size = length-drop (longest (a ∷ atoms)) (a ∷ atoms) in
    ap (λ l. front_packet (a ∷ atoms) ∷ l)
    (packed_enough m n (drop (longest (a ∷ atoms)) (a ∷ atoms)) (omega (arith, some.0, size, le)) (omega (arith, some.0, size, fits)))

-- the longest front, and then the rest
pub packed_on : (atoms : List Bool) → 0 < length atoms → packed atoms ≡ front_packet atoms ∷ packed (drop (longest atoms) atoms)
packed_on [] some = absurd (omega (arith, some))
packed_on (a ∷ atoms) some =
    let rest : List Bool = drop (longest (a ∷ atoms)) (a ∷ atoms) in
    let size = length-drop (longest (a ∷ atoms)) (a ∷ atoms) in
    let least = longest_is (a ∷ atoms) some in
    ap (λ l. front_packet (a ∷ atoms) ∷ l) (packed_enough (length atoms) (length rest) rest (omega (arith, least.0, size)) (omega arith))

-- as they are spelled
pub packed_spelled : (s : Sizes) (atoms : List Bool) → 0 < length atoms
    → spelled s (packed atoms) ≡ spelled s (front_packet atoms ∷ []) ++ spelled s (packed (drop (longest atoms) atoms))
packed_spelled s atoms some = ap (spelled s) (packed_on atoms some)

pub some_bytes : (s : Sizes) (atoms : List Bool) → 0 < length atoms → 1 ≤ length (spelled s (packed atoms))
some_bytes s atoms some = subst (λ l. 1 ≤ length (spelled s l)) (sym (packed_on atoms some)) (omega arith)

pub some_fewer : (depth : ℕ) (u v : PutOff) → 0 < length u.atoms → v ≡ some_out depth (longest u.atoms) u → length v.atoms < length u.atoms
some_fewer depth u v some is =
    let least = longest_is u.atoms some in
    let size = length-drop (longest u.atoms) u.atoms in
    let atoms : length v.atoms ≡ length (drop (longest u.atoms) u.atoms) = ap (λ (w : PutOff). length w.atoms) is in
    omega (arith, atoms, size, least.0, some)

-- ---- the bytes

-- packets behind others
pub put_both : (s : Sizes) (start between end : List ℕ) (packets more : List Packet) → between ≡ start ++ spelled s packets
    → end ≡ between ++ spelled s more → end ≡ start ++ spelled s (packets ++ more)
put_both s start between end packets more one two =
    two ∙ ap (λ bytes. bytes ++ spelled s more) one ∙ append_assoc start (spelled s packets) (spelled s more)
    ∙ ap (λ bytes. start ++ bytes) (sym (flat_map-append (spelling s) packets more))

-- with what is still to be written of the atoms
pub front_put : (s : Sizes) (depth : ℕ) (u v : PutOff) (start end : List ℕ) → 0 < length u.atoms → v ≡ some_out depth (longest u.atoms) u
    → end ≡ start ++ spelled s (front_packet u.atoms ∷ []) → end ++ spelled s (packed v.atoms) ≡ start ++ spelled s (packed u.atoms)
front_put s depth u v start end some is put =
    let front : List ℕ = spelled s (front_packet u.atoms ∷ []) in
    let rest : spelled s (packed v.atoms) ≡ spelled s (packed (drop (longest u.atoms) u.atoms)) = ap (λ (w : PutOff). spelled s (packed w.atoms)) is in
    ap (λ bytes. bytes ++ spelled s (packed v.atoms)) put ∙ append_assoc start front (spelled s (packed v.atoms))
    ∙ ap (λ bytes. start ++ bytes) (ap (λ bytes. front ++ bytes) rest ∙ sym (packed_spelled s u.atoms some))

-- ---- 24 atoms

is_full_at : (n : ℕ) (w x : PutOff) → x ≡ w → n ≡ length x.atoms → n ≡ 24 → is_full w ≡ true
is_full_at n w x same size full = eq-eqb (length w.atoms) 24 (omega (arith, ap (λ (v : PutOff). length v.atoms) same, size, full))

pub spills : (depth n : ℕ) (w x : PutOff) → x ≡ w → n ≡ length x.atoms → n ≡ 24 → spilled true depth x ≡ spilled (is_full w) depth w
spills depth n w x same size full = ap (spilled true depth) same ∙ ap (λ b. spilled b depth w) (sym (is_full_at n w x same size full))

pub spills_packets : (n : ℕ) (w x : PutOff) → x ≡ w → n ≡ length x.atoms → n ≡ 24 → spilled_packets true x ≡ spilled_packets (is_full w) w
spills_packets n w x same size full = ap (spilled_packets true) same ∙ ap (λ b. spilled_packets b w) (sym (is_full_at n w x same size full))
