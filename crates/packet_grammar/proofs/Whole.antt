-- The spellings as a whole are a code.
use Rattle.std.proofs.Common.{◌≡◌, ◌⊎◌, ℕ, ◌<◌, ◌≤◌, true, List, [], ◌∷◌, ◌++◌, length, Option, Some, None, refl, sym, ap, subst, ◌∙◌, inl, inr, arith}
use Rattle.std.specs.Prelude.{All}
use Rattle.std.proofs.lemmas.List.Elements.{All-cons, All-head}
use Rattle.etm_types.specs.Settings.{Sizes, AreSettings}
use Rattle.packet_grammar.specs.declared.packet.Packet.TheVariants.{Time, Commit, Cancel, CtxInfo, Addr}
use Rattle.packet_grammar.specs.Parts.{As}
use Rattle.packet_grammar.specs.Numbers.{Number, TimeStamp}
use Rattle.packet_grammar.specs.Contexts.{Context, ShortAddress, LongAddress32, LongAddress64}
use Rattle.packet_grammar.proofs.Table.{Follows, Told, body_of, Body, alone, atoms, extension, trace_info, time_stamp}
use Rattle.packet_grammar.proofs.Table.{exception, commit, cancel, context, short_address, long_32, long_64, long_32_with_context, long_64_with_context}
use Rattle.packet_grammar.proofs.Codes.{Apart, AtMost, Begun, Code, Stands, has_one, loosen, known_code, as_code, then_code, first_same, others_same}
use Rattle.packet_grammar.proofs.Bodies.{number_code, stamp_code, context_code, short_code, long_32_code, long_64_code, info_code, exception_code}
use Rattle.packet_grammar.proofs.Syncs.{zero_code}
use Rattle.packet_grammar.proofs.Runs.{run_apart, run_short, run_covers}
use Rattle.packet_grammar.proofs.Rows.{is_sound, has_body, atoms_from}

same_some : (a b : Body) → ◌≡◌ {A = Option Body} (Some a) (Some b) → a ≡ b
same_some a b e = cc

module _ (s : Sizes) (are : AreSettings s) where
  atoms_code : (h : ℕ) → 192 ≤ h → h < 256 → Code 0 (Follows s (atoms h))
  atoms_code h least below = record { apart = run_apart h; covers = run_covers h least below; short = run_short h }

  -- what follows a header, if it is not one of atoms, is a code
  body_code : (body : Body) → is_sound (Some body) ≡ true → Code 21 (Follows s body)
  body_code (alone outcome) e = loosen 0 21 (omega arith) (known_code outcome)
  body_code (atoms h) e = let from = atoms_from h e in loosen 0 21 (omega arith) (atoms_code h from.0 from.1)
  body_code extension e = loosen 11 21 (omega arith) zero_code
  body_code trace_info e = loosen 21 21 (omega arith) info_code
  body_code time_stamp e = loosen 9 21 (omega arith) (as_code 9 TimeStamp (λ stamp. Time stamp.bits stamp.low) stamp_code)
  body_code exception e = loosen 1 21 (omega arith) exception_code
  body_code commit e = loosen 5 21 (omega arith) (as_code 5 Number (λ n. Commit n) number_code)
  body_code (cancel flip) e = loosen 5 21 (omega arith) (as_code 5 Number (λ n. Cancel n flip) number_code)
  body_code context e = loosen 9 21 (omega arith) (as_code 9 (Context s) (λ ctx. CtxInfo ctx) (context_code s are))
  body_code short_address e = loosen 2 21 (omega arith) (as_code 2 ShortAddress (λ form. Addr form None) short_code)
  body_code long_32 e = loosen 4 21 (omega arith) (as_code 4 LongAddress32 (λ form. Addr form None) long_32_code)
  body_code long_64 e = loosen 8 21 (omega arith) (as_code 8 LongAddress64 (λ form. Addr form None) long_64_code)
  body_code long_32_with_context e =
      loosen 13 21 (omega arith) (then_code 4 9 LongAddress32 (λ form. As (Context s) (λ ctx. Addr form (Some ctx))) long_32_code
      (λ form. as_code 9 (Context s) (λ ctx. Addr form (Some ctx)) (context_code s are)))
  body_code long_64_with_context e =
      loosen 17 21 (omega arith) (then_code 8 9 LongAddress64 (λ form. As (Context s) (λ ctx. Addr form (Some ctx))) long_64_code
      (λ form. as_code 9 (Context s) (λ ctx. Addr form (Some ctx)) (context_code s are)))

  -- the same of all bodies, but that each has a spelling
  body_apart : (body : Body) → Apart (Follows s body)
  body_apart (alone outcome) = (body_code (alone outcome) refl).apart
  body_apart (atoms h) = run_apart h
  body_apart extension = (body_code extension refl).apart
  body_apart trace_info = (body_code trace_info refl).apart
  body_apart time_stamp = (body_code time_stamp refl).apart
  body_apart exception = (body_code exception refl).apart
  body_apart commit = (body_code commit refl).apart
  body_apart (cancel flip) = (body_code (cancel flip) refl).apart
  body_apart context = (body_code context refl).apart
  body_apart short_address = (body_code short_address refl).apart
  body_apart long_32 = (body_code long_32 refl).apart
  body_apart long_64 = (body_code long_64 refl).apart
  body_apart long_32_with_context = (body_code long_32_with_context refl).apart
  body_apart long_64_with_context = (body_code long_64_with_context refl).apart

  body_short : (body : Body) → AtMost 21 (Follows s body)
  body_short (alone outcome) = (body_code (alone outcome) refl).short
  body_short (atoms h) = λ outcome text is. omega (arith, run_short h outcome text is)
  body_short extension = (body_code extension refl).short
  body_short trace_info = (body_code trace_info refl).short
  body_short time_stamp = (body_code time_stamp refl).short
  body_short exception = (body_code exception refl).short
  body_short commit = (body_code commit refl).short
  body_short (cancel flip) = (body_code (cancel flip) refl).short
  body_short context = (body_code context refl).short
  body_short short_address = (body_code short_address refl).short
  body_short long_32 = (body_code long_32 refl).short
  body_short long_64 = (body_code long_64 refl).short
  body_short long_32_with_context = (body_code long_32_with_context refl).short
  body_short long_64_with_context = (body_code long_64_with_context refl).short

  pub told_apart : Apart (Told s)
  told_apart outcome other text text' rest rest' is is' e =
      let regrouped : is.header ∷ (is.rest ++ rest) ≡ is'.header ∷ (is'.rest ++ rest') =
      ap (λ t. t ++ rest) (sym is.whole) ∙ e ∙ ap (λ t. t ++ rest') is'.whole in
      let first : is.header ≡ is'.header = first_same is.header is'.header (is.rest ++ rest) (is'.rest ++ rest') regrouped in
      let body : is.body ≡ is'.body = same_some is.body is'.body (sym is.says ∙ ap body_of first ∙ is'.says) in
      let same = body_apart is.body outcome other is.rest is'.rest rest rest' is.follows (subst (λ b. Follows s b other is'.rest) (sym body) is'.follows)
      (others_same is.header is'.header (is.rest ++ rest) (is'.rest ++ rest') regrouped) in
      record { outcomes = same.outcomes; texts = is.whole ∙ (λ i. first i ∷ same.texts i) ∙ sym is'.whole; rests = same.rests }

  pub told_short : AtMost 22 (Told s)
  told_short outcome text is = omega (arith, ap length is.whole, body_short is.body outcome is.rest is.follows)

  pub told_covers : (bytes : List ℕ) → All (λ b. b < 256) bytes → Begun (Told s) bytes ⊎ Stands (Told s) bytes
  told_covers [] bounded =
      let has = has_body 0 (omega arith) in
      let one = has_one (body_code has.0 has.2) in
      inl (record {
        outcome = one.outcome;
        more = 0 ∷ one.text;
        some = omega arith;
        small = All-cons (λ (b : ℕ). b < 256) 0 one.text (omega arith) one.small;
        is = record { header = 0; rest = one.text; body = has.0; whole = refl; says = has.1; follows = one.is };
      })
  told_covers (h ∷ bytes) bounded =
      let has = has_body h (All-head (λ (b : ℕ). b < 256) h bytes bounded) in
      elim ((body_code has.0 has.2).covers bytes) [
        | inl x ↦ inl (record {
          outcome = x.outcome;
          more = x.more;
          some = x.some;
          small = x.small;
          is = record
              { header = h; rest = bytes ++ x.more; body = has.0; whole = refl; says = has.1; follows = x.is };
        })
        | inr x ↦ inr (record {
          outcome = x.outcome;
          text = h ∷ x.text;
          rest = x.rest;
          parts = ap (λ t. h ∷ t) x.parts;
          is = record { header = h; rest = x.text; body = has.0; whole = refl; says = has.1; follows = x.is };
        })
      ]
