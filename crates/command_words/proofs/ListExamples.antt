-- Lists of settings with their meaning, and near misses.
use Rattle.std.proofs.Common.{◌≡◌, ℕ, List, [], ◌∷◌, ◌++◌, codes, Option, Some, None, replicate, refl, ap, arith}
use Rattle.hex.specs.Hex.{decode_pairs}
use Rattle.etm_types.specs.Settings.{Sizes}
use Rattle.etm_types.specs.SettingsTable.{sizes_at}
use Rattle.command_words.specs.declared.words.Layout.{Layout}
use Rattle.command_words.specs.declared.words.ProgramForm.TheVariants as form
use Rattle.command_words.specs.declared.words.Layout.TheVariants.{Raw, Frames}
use Rattle.command_words.specs.Words.{Command, Counts, Path, Packets, Retired, Selftest, Times, Trace, meaning}

abbrev sizes : ℕ → ℕ → ℕ → Sizes
sizes depth vmid cid = record { depth = depth; vmid_bytes = vmid; cid_bytes = cid }

-- path --settings LIST img
abbrev path_by : List ℕ → Option Command
path_by list = meaning (codes "path" ∷ codes "--settings" ∷ list ∷ codes "img" ∷ [])

-- packets --settings LIST
abbrev packets_by : List ℕ → Option Command
packets_by list = meaning (codes "packets" ∷ codes "--settings" ∷ list ∷ [])

abbrev path_of : List Sizes → Layout → Option Command
path_of units layout = Some (Path (record { name = codes "img"; form = form.Text }) (record { units = units; layout = layout }))

abbrev packets_of : List Sizes → Layout → Option Command
packets_of units layout = Some (Packets (record { units = units; layout = layout }))

-- ---- IDs that are named, and others

-- the first ID
pub first_id : path_by (codes "01:0:0:0") ≡ path_of (sizes 0 0 0 ∷ replicate 110 (sizes 16 1 4)) Frames
unfolding decode_pairs
first_id = refl

-- the last
pub last_id : packets_by (codes "6F:1:1:0") ≡ packets_of (replicate 110 (sizes 16 1 4) ++ sizes 1 1 0 ∷ []) Frames
unfolding decode_pairs
last_id = refl

-- digits of either case
pub small_digits : path_by (codes "0a:1:2:4") ≡ path_of (replicate 9 (sizes 16 1 4) ++ sizes 1 2 4 ∷ replicate 101 (sizes 16 1 4)) Frames
unfolding decode_pairs
small_digits = refl

pub great_digits : path_by (codes "0A:1:2:4") ≡ path_of (replicate 9 (sizes 16 1 4) ++ sizes 1 2 4 ∷ replicate 101 (sizes 16 1 4)) Frames
unfolding decode_pairs
great_digits = refl

-- path --vmid 0 --cid 0 --settings 01:0:0:0 img
pub others_by_the_options :
    meaning (codes "path" ∷ codes "--vmid" ∷ codes "0" ∷ codes "--cid" ∷ codes "0" ∷ codes "--settings" ∷ codes "01:0:0:0" ∷ codes "img" ∷ [])
    ≡ path_of (sizes 0 0 0 ∷ replicate 110 (sizes 16 0 0)) Frames
unfolding decode_pairs
others_by_the_options = refl

-- path --settings=01:0:0:0,02:16384:0:4 --vmid 0 --cid 0 img
pub two_in_order :
    meaning (codes "path" ∷ codes "--settings=01:0:0:0,02:16384:0:4" ∷ codes "--vmid" ∷ codes "0" ∷ codes "--cid" ∷ codes "0" ∷ codes "img" ∷ [])
    ≡ path_of (sizes 0 0 0 ∷ sizes 16384 0 4 ∷ replicate 109 (sizes 16 0 0)) Frames
unfolding decode_pairs
two_in_order = refl

-- the order of the words is not that of the IDs
pub two_turned : path_by (codes "02:0:0:0,01:16384:0:4") ≡ path_of (sizes 16384 0 4 ∷ sizes 0 0 0 ∷ replicate 109 (sizes 16 1 4)) Frames
unfolding decode_pairs
two_turned = refl

-- path --raw --depth 4 --settings 01:0:1:4 img
pub one_stream :
    meaning (codes "path" ∷ codes "--raw" ∷ codes "--depth" ∷ codes "4" ∷ codes "--settings" ∷ codes "01:0:1:4" ∷ codes "img" ∷ [])
    ≡ path_of (sizes 0 1 4 ∷ replicate 110 (sizes 4 1 4)) Raw
unfolding decode_pairs
one_stream = refl

-- path --raw --depth 4 --settings 02:0:1:4 img
pub another_stream :
    meaning (codes "path" ∷ codes "--raw" ∷ codes "--depth" ∷ codes "4" ∷ codes "--settings" ∷ codes "02:0:1:4" ∷ codes "img" ∷ [])
    ≡ path_of (sizes 4 1 4 ∷ sizes 0 1 4 ∷ replicate 109 (sizes 4 1 4)) Raw
unfolding decode_pairs
another_stream = refl

-- zeros in front
pub zeros_in_front : path_by (codes "03:0000000016:04:0") ≡ path_of (replicate 2 (sizes 16 1 4) ++ sizes 16 4 0 ∷ replicate 108 (sizes 16 1 4)) Frames
unfolding decode_pairs
zeros_in_front = refl

-- ---- no list

pub id_twice : path_by (codes "01:0:0:0,01:1:0:0") ≡ None
unfolding decode_pairs
id_twice = refl

pub id_twice_alike : path_by (codes "01:0:0:0,01:0:0:0") ≡ None
unfolding decode_pairs
id_twice_alike = refl

pub id_twice_in_both_cases : path_by (codes "0A:1:1:4,0a:1:1:4") ≡ None
unfolding decode_pairs
id_twice_in_both_cases = refl

pub id_twice_apart : packets_by (codes "01:0:0:0,02:0:0:0,01:0:0:0") ≡ None
unfolding decode_pairs
id_twice_apart = refl

pub null_id : path_by (codes "00:1:1:4") ≡ None
unfolding decode_pairs
null_id = refl

pub reserved_id : packets_by (codes "70:1:1:0") ≡ None
unfolding decode_pairs
reserved_id = refl

pub id_of_one_digit : packets_by (codes "1:1:1:0") ≡ None
id_of_one_digit = refl

pub id_of_three_digits : path_by (codes "011:1:1:4") ≡ None
id_of_three_digits = refl

pub id_without_digits : path_by (codes "gg:1:1:4") ≡ None
unfolding decode_pairs
id_without_digits = refl

pub no_id : path_by (codes ":1:1:4") ≡ None
no_id = refl

pub three_parts : path_by (codes "01:0:0") ≡ None
three_parts = refl

pub five_parts : path_by (codes "01:0:0:0:0") ≡ None
unfolding decode_pairs
five_parts = refl

pub empty_depth : path_by (codes "01::1:4") ≡ None
unfolding decode_pairs
empty_depth = refl

pub empty_size : path_by (codes "01:1:1:") ≡ None
unfolding decode_pairs
empty_size = refl

pub depth_of_eleven_digits : path_by (codes "01:00000000016:1:4") ≡ None
unfolding decode_pairs
depth_of_eleven_digits = refl

pub depth_with_a_sign : path_by (codes "01:+1:1:4") ≡ None
unfolding decode_pairs
depth_with_a_sign = refl

pub vmid_of_three_bytes : path_by (codes "01:1:3:4") ≡ None
unfolding decode_pairs
vmid_of_three_bytes = refl

pub cid_of_two_bytes : path_by (codes "01:1:1:2") ≡ None
unfolding decode_pairs
cid_of_two_bytes = refl

pub too_deep : path_by (codes "01:16385:0:0") ≡ None
unfolding decode_pairs
too_deep = refl

pub too_deep_for_packets : packets_by (codes "01:16385:0:0") ≡ None
unfolding decode_pairs
too_deep_for_packets = refl

pub comma_behind : path_by (codes "01:0:0:0,") ≡ None
unfolding decode_pairs
comma_behind = refl

pub comma_in_front : path_by (codes ",01:0:0:0") ≡ None
comma_in_front = refl

pub two_commas : path_by (codes "01:0:0:0,,02:0:0:0") ≡ None
unfolding decode_pairs
two_commas = refl

pub commas_alone : path_by (codes ",,") ≡ None
commas_alone = refl

pub blank_behind_a_comma : path_by (codes "01:0:0:0, 02:0:0:0") ≡ None
unfolding decode_pairs
blank_behind_a_comma = refl

pub second_word_is_bad : path_by (codes "01:0:0:0,02:0:0") ≡ None
unfolding decode_pairs
second_word_is_bad = refl

pub empty_list : path_by [] ≡ None
empty_list = refl

-- path --settings= img
pub empty_list_joined : meaning (codes "path" ∷ codes "--settings=" ∷ codes "img" ∷ []) ≡ None
empty_list_joined = refl

-- a good list, and a number of the others that is out of range
pub others_too_deep : meaning (codes "path" ∷ codes "--depth" ∷ codes "16385" ∷ codes "--settings" ∷ codes "01:0:0:0" ∷ codes "img" ∷ []) ≡ None
others_too_deep = refl

-- ---- the option stands once, at commands that take an input

-- path --settings 01:0:0:0 --settings 02:0:0:0 img
pub option_twice :
    meaning (codes "path" ∷ codes "--settings" ∷ codes "01:0:0:0" ∷ codes "--settings" ∷ codes "02:0:0:0" ∷ codes "img" ∷ []) ≡ None
option_twice = refl

-- packets --settings
pub list_missing : meaning (codes "packets" ∷ codes "--settings" ∷ []) ≡ None
list_missing = refl

-- path --setting 01:0:0:0 img
pub name_shortened : meaning (codes "path" ∷ codes "--setting" ∷ codes "01:0:0:0" ∷ codes "img" ∷ []) ≡ None
name_shortened = refl

-- packets --depth 4 --settings 01:0:0:0
pub packets_of_a_depth : meaning (codes "packets" ∷ codes "--depth" ∷ codes "4" ∷ codes "--settings" ∷ codes "01:0:0:0" ∷ []) ≡ None
packets_of_a_depth = refl

-- trace --settings 01:0:0:0 img
pub trace_by_a_list : meaning (codes "trace" ∷ codes "--settings" ∷ codes "01:0:0:0" ∷ codes "img" ∷ []) ≡ None
trace_by_a_list = refl

-- retired --settings 01:0:0:0 img
pub retired_by_a_list : meaning (codes "retired" ∷ codes "--settings" ∷ codes "01:0:0:0" ∷ codes "img" ∷ []) ≡ None
retired_by_a_list = refl

-- selftest --settings 01:0:0:0 5
pub number_by_a_list : meaning (codes "selftest" ∷ codes "--settings" ∷ codes "01:0:0:0" ∷ codes "5" ∷ []) ≡ None
number_by_a_list = refl

-- ---- near misses, which are false

abbrev units_in : Option Command → List Sizes
units_in (Some (Path program intake)) = intake.units
units_in (Some (Counts program intake)) = intake.units
units_in (Some (Packets intake)) = intake.units
units_in (Some (Times intake)) = intake.units
units_in (Some (Retired program)) = []
units_in (Some (Trace program last every)) = []
units_in (Some (Selftest n cut)) = []
units_in None = []

abbrev depth_at : ℕ → Option Command → ℕ
depth_at id command = (sizes_at (units_in command) id).depth

-- an ID that is named has not the sizes of the others
pub not_the_others : path_by (codes "01:0:1:4") ≡ path_of (replicate 111 (sizes 16 1 4)) Frames → ⊥
unfolding decode_pairs
not_the_others e = let same : ◌≡◌ {A = ℕ} 0 16 = ap (depth_at 1) e in absurd (omega (arith, same))

-- an ID that is not named has not the sizes of one that is
pub not_its_neighbour : path_by (codes "01:0:1:4") ≡ path_of (replicate 111 (sizes 0 1 4)) Frames → ⊥
unfolding decode_pairs
not_its_neighbour e = let same : ◌≡◌ {A = ℕ} 16 0 = ap (depth_at 2) e in absurd (omega (arith, same))

-- the digits of an ID are hex digits
pub not_ten : path_by (codes "10:0:1:4") ≡ path_of (replicate 9 (sizes 16 1 4) ++ sizes 0 1 4 ∷ replicate 101 (sizes 16 1 4)) Frames → ⊥
unfolding decode_pairs
not_ten e = let same : ◌≡◌ {A = ℕ} 16 0 = ap (depth_at 10) e in absurd (omega (arith, same))

-- words are by their IDs, not by their places
pub not_by_place : path_by (codes "02:0:1:4") ≡ path_of (sizes 0 1 4 ∷ replicate 110 (sizes 16 1 4)) Frames → ⊥
unfolding decode_pairs
not_by_place e = let same : ◌≡◌ {A = ℕ} 16 0 = ap (depth_at 1) e in absurd (omega (arith, same))
