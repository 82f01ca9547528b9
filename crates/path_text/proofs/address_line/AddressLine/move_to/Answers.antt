use Rattle.std.proofs.Common.{◌≡◌, ◌+◌, ◌-◌, ◌≤◌, ◌++◌, ◌∙◌, ap, sym, length, take, drop, set, arith}
use Rattle.path_text.specs.Lines.{hex, last_four_hex}
use Rattle.path_text.proofs.DigitLemmas.{few_hex_64}
use Rattle.path_text.proofs.HexLemmas.{at_least_four_hex}
use Rattle.path_text.proofs.AddressLines.{front_there, line_length, line_changed, line_made}
use Rattle.path_text.proofs.address_line.AddressLine.move_to.Goals.{then-differs_in_last_four, else-differs_in_last_four}
use Rattle.path_text.proofs.address_line.AddressLine.move_to.Goals as goal

pub put_last_four_hex-requires-clause-room : goal.put_last_four_hex-requires-clause-room
put_last_four_hex-requires-clause-room c =
    let line = c.self.inside in
    let len = line_length line.id line.address line.len line.bytes (omega (arith, c.self.invariant.0, c.self.told)) c.self.invariant.1 in
    omega (arith, len, at_least_four_hex line.address (c.differs_in_last_four.ensures.0 c.if-differs_in_last_four.true).0)

pub overflow_add-end : goal.overflow_add-end
overflow_add-end c = omega (arith, c.hex_count-end.ensures, few_hex_64 c.args.address (omega arith))

pub put_hex-requires-clause-within : goal.put_hex-requires-clause-within
put_hex-requires-clause-within c = omega (arith, c.hex_count-end.ensures, few_hex_64 c.args.address (omega arith), c.self.told)

pub bounds-self-inside-end : goal.bounds-self-inside-end
bounds-self-inside-end c = omega (arith, c.hex_count-end.ensures, few_hex_64 c.args.address (omega arith))

pub invariant_of-self : goal.invariant_of-self
invariant_of-self c =
    let line = c.self.inside in let id = line.id in let bytes = line.bytes in let address = c.args.address in let last = line.len - 1 in
    let len = line_length id line.address line.len bytes (omega (arith, c.self.invariant.0, c.self.told)) c.self.invariant.1 in
    let same : line.len ≡ last + 1 = omega (arith, len) in
    elim c.if-differs_in_last_four.branch [
      | then-differs_in_last_four w ↦ let near = c.differs_in_last_four.ensures.0 w.if-differs_in_last_four.true in rw w.self-inside-is (
        c.self.invariant.0,
        ap (λ t. take line.len t) w.put_last_four_hex.ensures
            ∙ ap (λ n. take n (take (last - 4) bytes ++ (last_four_hex address ++ drop last bytes))) same
            ∙ line_changed id line.address address last bytes near.0 near.1 near.2 (omega (arith, len))
            (ap (λ n. take n bytes) (sym same) ∙ c.self.invariant.1),
      )
      | else-differs_in_last_four w ↦ let end = 3 + w.hex_count-end.result in
          let start : end - length (hex address) ≡ 3 = omega (arith, w.hex_count-end.ensures) in
          let few : length (hex address) ≤ 16 = few_hex_64 address (omega arith) in rw w.self-inside-is (
            omega (arith, few, w.hex_count-end.ensures),
            ap (λ t. take (end + 1) (set t end 10)) w.put_hex.ensures
                ∙ ap (λ n. take (end + 1) (set (take n bytes ++ (hex address ++ drop end bytes)) end 10)) start
                ∙ line_made id address end bytes (front_there id line.address line.len bytes (omega (arith, len)) c.self.invariant.1)
                (omega (arith, w.hex_count-end.ensures))
                (omega (arith, few, w.hex_count-end.ensures, c.self.told)),
          )
    ]
