use Rattle.std.proofs.Common.{◌≡◌, ◌+◌, ◌-◌, ◌/◌, ◌%◌, ◌++◌, ◌∷◌, ◌∙◌, ap, take, drop, arith}
use Rattle.path_text.specs.Lines.{digit}
use Rattle.path_text.proofs.HexLemmas.{put_two_pairs}
use Rattle.path_text.proofs.digits.put_last_four_hex.Goals as goal

pub returns : goal.returns
returns c =
    let n = c.args.n in let end = c.args.end in let text = c.args.text.now in let at = end - 4 in
    let high = digit (n / 256 % 256 / 16) in let low = digit (n / 256 % 256 % 16) in
    let tens = digit (n % 256 / 16) in let ones = digit (n % 256 % 16) in
    let made = take at text ++ (high ∷ low ∷ drop (at + 2) text) in
    let second : end - 2 ≡ at + 2 = omega (arith, c.requires.room) in
    let behind : end - 2 + 2 ≡ at + 4 = omega (arith, c.requires.room) in
    let all : at + 4 ≡ end = omega (arith, c.requires.room) in
    let first : n / 256 % 256 / 16 ≡ n / 4096 % 16 = omega arith in
    let next : n / 256 % 256 % 16 ≡ n / 256 % 16 = omega arith in
    let third : n % 256 / 16 ≡ n / 16 % 16 = omega arith in
    let last : n % 256 % 16 ≡ n % 16 = omega arith in
    c.put_byte-2.ensures ∙ ap (λ t. take (end - 2) t ++ (tens ∷ ones ∷ drop (end - 2 + 2) t)) c.put_byte.ensures
    ∙ ap (λ k. take k made ++ (tens ∷ ones ∷ drop (end - 2 + 2) made)) second
    ∙ ap (λ k. take (at + 2) made ++ (tens ∷ ones ∷ drop k made)) behind
    ∙ put_two_pairs at text high low tens ones (omega (arith, c.requires.room, c.requires.within))
    ∙ ap (λ k. take at text ++ (high ∷ low ∷ tens ∷ ones ∷ drop k text)) all
    ∙ ap (λ k. take at text ++ (digit k ∷ low ∷ tens ∷ ones ∷ drop end text)) first
    ∙ ap (λ k. take at text ++ (digit (n / 4096 % 16) ∷ digit k ∷ tens ∷ ones ∷ drop end text)) next
    ∙ ap (λ k. take at text ++ (digit (n / 4096 % 16) ∷ digit (n / 256 % 16) ∷ digit k ∷ ones ∷ drop end text)) third
    ∙ ap (λ k. take at text ++ (digit (n / 4096 % 16) ∷ digit (n / 256 % 16) ∷ digit (n / 16 % 16) ∷ digit k ∷ drop end text)) last
