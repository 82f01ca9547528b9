use Rattle.std.proofs.Common.{◌≡◌, ◌++◌, length, take, sym, ap, ◌∙◌, arith}
use Rattle.trace_unit.proofs.WaitingFront.{front_found}
use Rattle.trace_unit.proofs.WaitingOut.{some_gone, some_keep}
use Rattle.trace_unit.specs.Whole.{PutOff, some_out}
use Rattle.trace_unit.proofs.put_off.PutOff.front_out.Goals as goal

pub drop_front-requires : goal.drop_front-requires
drop_front-requires c =
    let u = c.args.self.now in
    let n = c.longest_front-byte.result.1 in
    let given = c.as_slice.ensures.value ∙ ap (λ (w : PutOff). w.atoms) c.self.view_is in
    let found = front_found u.atoms c.as_slice.result.now c.longest_front-byte.result.0 n given
    c.longest_front-byte.ensures.front c.longest_front-byte.ensures.longest in
    let atoms : c.self-2.inside.atoms ≡ u.atoms =
    ap (λ (w : PutOff). w.atoms) (c.self-2.view_is ∙ c.count_atoms.ensures) ∙ some_keep c.args.settings.now.depth (take n u.atoms) u in
    omega (arith, found.within, ap length atoms)

pub returns-clause-waiting : goal.returns-clause-waiting
returns-clause-waiting c =
    let u = c.args.self.now in
    let depth = c.args.settings.now.depth in
    let n = c.longest_front-byte.result.1 in
    let given = c.as_slice.ensures.value ∙ ap (λ (w : PutOff). w.atoms) c.self.view_is in
    let found = front_found u.atoms c.as_slice.result.now c.longest_front-byte.result.0 n given
    c.longest_front-byte.ensures.front c.longest_front-byte.ensures.longest in
    let inside = c.self-2.inside in
    let v : PutOff = record { atoms = inside.atoms; cancels = inside.cancels; commits = inside.commits; held = inside.held } in
    let wrote = c.self-2.view_is ∙ c.count_atoms.ensures in
    let atoms = ap (λ (w : PutOff). w.atoms) wrote ∙ some_keep depth (take n u.atoms) u in
    ap (λ l. record v { atoms = l }) c.drop_front.ensures ∙ some_gone depth n u v c.requires.none wrote atoms
    ∙ ap (λ m. some_out depth m u) found.count

pub returns-clause-bytes : goal.returns-clause-bytes
returns-clause-bytes c =
    let u = c.args.self.now in
    let given = c.as_slice.ensures.value ∙ ap (λ (w : PutOff). w.atoms) c.self.view_is in
    let found = front_found u.atoms c.as_slice.result.now c.longest_front-byte.result.0 c.longest_front-byte.result.1 given
    c.longest_front-byte.ensures.front c.longest_front-byte.ensures.longest in
    c.push_reserved.ensures.items ∙ ap (λ bytes. c.args.bytes.now.items ++ bytes) (sym (found.spelled c.args.settings.now))
