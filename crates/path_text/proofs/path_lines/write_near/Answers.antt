use Rattle.std.proofs.Common.{◌≡◌, ◌<◌, refl, ap, sym, ◌∙◌, subst, arith, append-nil}
use Rattle.path_text.specs.Lines.{address_line}
use Rattle.path_text.specs.PathLines.{instruction_lines}
use Rattle.path_text.specs.Writing.{Writes}
use Rattle.path_text.proofs.HexLemmas.{at_least_four_hex}
use Rattle.path_text.proofs.AddressLines.{whole_length}
use Rattle.path_text.proofs.path_lines.write_near.Goals as goal

pub returns-in_default : goal.returns-in_default
returns-in_default g c =
    let id = c.args.line.now.id in let address = c.args.line.now.address in
    let many : 1 < c.args.count → ⊥ = λ more.
    let four = at_least_four_hex address (c.requires.near more).0 in
    omega (arith, c.len.ensures.value, whole_length id address (address_line id address) refl, four, c.len.ensures.short, c.in_default) in
    let one : 1 ≡ c.args.count = omega (arith, c.requires.some, many) in
    let text : address_line id address ≡ instruction_lines id address c.args.count =
    sym (append-nil (address_line id address)) ∙ ap (λ n. instruction_lines id address n) one in
    subst (Writes (g.K.Sink.state c.args.sink.now) (g.K.Sink.state c.write.new.sink) c.write.result) text c.write.ensures
