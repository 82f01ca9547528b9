-- Addresses and their forms, worked out by hand from the standard's tables of address packets, and near misses.
use Rattle.std.proofs.Common.{◌≡◌, ◌<◌, ◌^◌, ℕ, List, [], ◌∷◌, map, Some, refl, arith}
use Rattle.std.proofs.lemmas.List.Elements.{All-cons, All-head, All-nil}
use Rattle.etm_types.specs.declared.address.AddrForm.TheVariants.{Match, Short1, Short2, Long32, Long64}
use Rattle.address_history.specs.Forms.{IsHistory, HasEntry, IsNeeded, address_told, first_form, no_address, put_first}

-- ---- the history

-- after 1000, 2000 and 3000
abbrev three : List ℕ
three = put_first 0x3000 (put_first 0x2000 (put_first 0x1000 no_address))

abbrev matches : List ℕ → List ℕ
matches history = map (address_told history) (Match 0 ∷ Match 1 ∷ Match 2 ∷ [])

pub oldest_falls_out : three ≡ 0x3000 ∷ 0x2000 ∷ 0x1000 ∷ []
oldest_falls_out = refl

pub newest_first : matches three ≡ three
newest_first = refl

-- an exact match is put first too: 1000, and 1000 once more
pub matched : matches (put_first 0x1000 three) ≡ 0x1000 ∷ 0x3000 ∷ 0x2000 ∷ []
matched = refl

pub matched_again : matches (put_first 0x1000 (put_first 0x1000 three)) ≡ 0x1000 ∷ 0x1000 ∷ 0x3000 ∷ []
matched_again = refl

pub zeros_at_first : no_address ≡ 0 ∷ 0 ∷ 0 ∷ []
zeros_at_first = refl

pub each_entry : HasEntry (Match 0) × HasEntry (Match 1) × HasEntry (Match 2)
each_entry = (omega arith, omega arith, omega arith)

-- no other form names an entry
pub without_entry : HasEntry (Short1 3) × HasEntry (Short2 3) × HasEntry (Long32 3) × HasEntry (Long64 3)
without_entry = (tt, tt, tt, tt)

pub entry_3 : HasEntry (Match 3) → ⊥
entry_3 has = omega (arith, has)

abbrev IsAddress : ℕ → Type 0
IsAddress a = a < 2 ^ 64

abbrev greatest : List ℕ
greatest = 0xffffffffffffffff ∷ 0 ∷ 0xffffffffffffffff ∷ []

pub three_addresses : IsHistory greatest
three_addresses = record {
  three = refl;
  addresses =
      All-cons IsAddress 0xffffffffffffffff (0 ∷ 0xffffffffffffffff ∷ []) (omega arith)
      (All-cons IsAddress 0 (0xffffffffffffffff ∷ []) (omega arith) (All-cons IsAddress 0xffffffffffffffff [] (omega arith) (All-nil IsAddress)));
}

pub bit_64 : IsHistory (0x10000000000000000 ∷ 0 ∷ 0 ∷ []) → ⊥
bit_64 is = let below : 0x10000000000000000 < 2 ^ 64 = All-head IsAddress 0x10000000000000000 (0 ∷ 0 ∷ []) is.addresses in omega (arith, below)

pub four_entries : IsHistory (0 ∷ 0 ∷ 0 ∷ 0 ∷ []) → ⊥
four_entries is = omega (arith, is.three)

pub two_entries : IsHistory (0 ∷ 0 ∷ []) → ⊥
two_entries is = omega (arith, is.three)

-- ---- the address of a form

abbrev high : List ℕ
high = 0x123456789abcdef0 ∷ 0 ∷ 0 ∷ []

-- all bits of a value are set, and those in the place of the form count: 8, 16, 31 and 63 down to 2
pub bits_in_place :
    map (λ form. address_told high form)
    (Short1 0xffffffffffffffff ∷ Short2 0xffffffffffffffff ∷ Long32 0xffffffffffffffff ∷ Long64 0xffffffffffffffff ∷ [])
    ≡ 0x123456789abcdffc ∷ 0x123456789abdfffc ∷ 0x12345678fffffffc ∷ 0xfffffffffffffffc ∷ []
bits_in_place = refl

pub zero_bits :
    map (λ form. address_told high form) (Short1 0 ∷ Short2 0 ∷ Long32 0 ∷ Long64 0 ∷ [])
    ≡ 0x123456789abcde00 ∷ 0x123456789abc0000 ∷ 0x1234567800000000 ∷ 0 ∷ []
zero_bits = refl

-- ---- the form of an address

abbrev once : List ℕ
once = put_first 0x1000 no_address

pub zeros_follow : once ≡ 0x1000 ∷ 0 ∷ 0 ∷ []
zeros_follow = refl

-- each address beside its form
pub first_forms :
    map (first_form once) (0x1000 ∷ 0 ∷ 0x11fc ∷ 0x1200 ∷ 0x1fffc ∷ 0x20000 ∷ 0xfffffffc ∷ 0x100000000 ∷ [])
    ≡ Some (Match 0) ∷ Some (Match 1) ∷ Some (Short1 0x1fc) ∷ Some (Short2 0x1200) ∷ Some (Short2 0x1fffc) ∷ Some (Long32 0x20000)
    ∷ Some (Long32 0xfffffffc) ∷ Some (Long64 0x100000000) ∷ []
first_forms = refl

pub last_match : first_form (put_first 0x3000 (put_first 0x2000 once)) 0x1000 ≡ Some (Match 2)
last_match = refl

-- a form is needed where the next shorter one leaves out a bit that differs
pub needed : IsNeeded once 0x11fc (Short1 0x1fc) × IsNeeded once 0x1200 (Short2 0x1200) × IsNeeded once 0x20000 (Long32 0x20000)
    × IsNeeded once 0x100000000 (Long64 0x100000000)
needed =
    ((λ e. omega (arith, e), refl), (λ e. omega (arith, e), refl), (λ e. omega (arith, e), refl), λ e. omega (arith, e))

pub short_is_enough : IsNeeded once 0x11fc (Short2 0x11fc) → ⊥
short_is_enough is = is.0 refl

pub short_of_15_is_enough : IsNeeded once 0x1fffc (Long32 0x1fffc) → ⊥
short_of_15_is_enough is = is.0 refl

pub long_of_32_is_enough : IsNeeded once 0xfffffffc (Long64 0xfffffffc) → ⊥
long_of_32_is_enough is = is refl

pub short_is_too_short : IsNeeded once 0x1200 (Short1 0) → ⊥
short_is_too_short is = omega (arith, is.1)

-- ---- forms behind a history whose entries differ everywhere

abbrev mixed : List ℕ
mixed = 0x123456799abedef0 ∷ 0xfedcba9876543210 ∷ 0x0f0f0f0f0f0f0f0c ∷ []

-- the entries, and addresses that differ from the newest one in one bit alone: 8, 9, 16, 17, 31, 32 and 63
abbrev in_one_bit : List ℕ
in_one_bit =
    0x123456799abedef0 ∷ 0xfedcba9876543210 ∷ 0x0f0f0f0f0f0f0f0c ∷ 0x123456799abedff0 ∷ 0x123456799abedcf0 ∷ 0x123456799abfdef0
    ∷ 0x123456799abcdef0 ∷ 0x123456791abedef0 ∷ 0x123456789abedef0 ∷ 0x923456799abedef0 ∷ []

pub forms_of_one_bit :
    map (first_form mixed) in_one_bit
    ≡ Some (Match 0) ∷ Some (Match 1) ∷ Some (Match 2) ∷ Some (Short1 0x1f0) ∷ Some (Short2 0xdcf0) ∷ Some (Short2 0x1def0)
    ∷ Some (Long32 0x9abcdef0) ∷ Some (Long32 0x1abedef0) ∷ Some (Long64 0x123456789abedef0) ∷ Some (Long64 0x923456799abedef0) ∷ []
forms_of_one_bit = refl

-- an address that stands twice is told by its first entry, and one of few bits by an entry and not by a short form
pub first_of_two : map (first_form (8 ∷ 8 ∷ 4 ∷ [])) (8 ∷ 4 ∷ []) ≡ Some (Match 0) ∷ Some (Match 2) ∷ []
first_of_two = refl

pub second_of_two : first_form (4 ∷ 8 ∷ 8 ∷ []) 8 ≡ Some (Match 1)
second_of_two = refl

pub entries_needed : IsNeeded mixed 0x123456799abedef0 (Match 0) × IsNeeded mixed 0xfedcba9876543210 (Match 1) × IsNeeded mixed 0x0f0f0f0f0f0f0f0c (Match 2)
entries_needed = (refl, refl, refl)

pub other_entry : IsNeeded mixed 0xfedcba9876543210 (Match 0) → ⊥
other_entry is = omega (arith, is)

-- each form at the lowest and at the highest bit that the next shorter one leaves out
pub one_bit_needed : IsNeeded mixed 0x123456799abedef4 (Short1 0xf4) × IsNeeded mixed 0x123456799abedff0 (Short1 0x1f0)
    × IsNeeded mixed 0x123456799abedcf0 (Short2 0xdcf0) × IsNeeded mixed 0x123456799abfdef0 (Short2 0x1def0)
    × IsNeeded mixed 0x123456799abcdef0 (Long32 0x9abcdef0) × IsNeeded mixed 0x123456791abedef0 (Long32 0x1abedef0)
    × IsNeeded mixed 0x123456789abedef0 (Long64 0x123456789abedef0) × IsNeeded mixed 0x923456799abedef0 (Long64 0x923456799abedef0)
one_bit_needed = (
  (λ e. omega (arith, e), refl),
  (λ e. omega (arith, e), refl),
  (λ e. omega (arith, e), refl),
  (λ e. omega (arith, e), refl),
  (λ e. omega (arith, e), refl),
  (λ e. omega (arith, e), refl),
  λ e. omega (arith, e),
  λ e. omega (arith, e),
)

pub match_is_enough : IsNeeded mixed 0x123456799abedef0 (Short1 0xf0) → ⊥
match_is_enough is = is.0 refl

-- the highest bit that a form carries needs no longer one
pub bit_8_is_short : IsNeeded mixed 0x123456799abedff0 (Short2 0xdff0) → ⊥
bit_8_is_short is = is.0 refl

pub bit_16_is_short : IsNeeded mixed 0x123456799abfdef0 (Long32 0x9abfdef0) → ⊥
bit_16_is_short is = is.0 refl

pub bit_31_is_of_32 : IsNeeded mixed 0x123456791abedef0 (Long64 0x123456791abedef0) → ⊥
bit_31_is_of_32 is = is refl

-- and the lowest that it leaves out does
pub bit_9_is_left_out : IsNeeded mixed 0x123456799abedcf0 (Short1 0xf0) → ⊥
bit_9_is_left_out is = omega (arith, is.1)

pub bit_17_is_left_out : IsNeeded mixed 0x123456799abcdef0 (Short2 0xdef0) → ⊥
bit_17_is_left_out is = omega (arith, is.1)

pub bit_32_is_left_out : IsNeeded mixed 0x123456789abedef0 (Long32 0x9abedef0) → ⊥
bit_32_is_left_out is = omega (arith, is.1)
