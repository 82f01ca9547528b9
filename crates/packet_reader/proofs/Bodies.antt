-- The tree of each body reads what follows the header.
use Rattle.std.proofs.Common.{◌≡◌, ℕ, zero, suc, ◌+◌, ◌-◌, ◌*◌, ◌%◌, ◌^◌, ◌==◌, ◌&&◌, not, Bool, true, false, List, []}
use Rattle.std.proofs.Common.{◌∷◌, ◌++◌, length, Option, Some, None, Ok, Err, refl, sym, ap, subst, add-one, ◌∙◌, inl, inr, arith, nat_lt}
use Rattle.std.specs.Prelude.{if◌then◌else◌}
use Rattle.std.proofs.Math.Nat.{pow-suc}
use Rattle.etm_types.specs.Settings.{Sizes}
use Rattle.etm_types.specs.declared.address.AddrForm.{AddrForm}
use Rattle.etm_types.specs.declared.address.AddrForm.TheVariants.{Short1, Short2}
use Rattle.etm_types.specs.declared.context.CtxBits.{CtxBits}
use Rattle.packet_grammar.specs.declared.packet.Packet.{Packet}
use Rattle.packet_grammar.specs.declared.packet.Packet.TheVariants.{Time, Info, Addr}
use Rattle.packet_grammar.specs.declared.fault.PacketFault.TheVariants.{NumberTooLong, InfoControl, InfoMode, Aarch32Context}
use Rattle.packet_grammar.specs.Parts.{Outcome, Part, Known, Byte, Bytes, Where, Then, As}
use Rattle.packet_grammar.specs.Numbers.{NumberWithin, Number, Stamp, StampWithin, TimeStamp, little}
use Rattle.packet_grammar.specs.Fields.{bit}
use Rattle.packet_grammar.specs.Contexts.{Field, Context, ShortAddress, address_of}
use Rattle.packet_grammar.specs.Spelling.{Section, Mode, TraceInfo}
use Rattle.packet_grammar.proofs.Table.{Exception}
use Rattle.packet_reader.specs.Trees.{Tree, known, byte, Leads, number_tree, stamp_tree, bytes_tree, field_tree}
use Rattle.packet_reader.specs.States.{cycles_tree, spec_tree, key_tree, mode_tree, info_tree, control_tree}
use Rattle.packet_reader.specs.States.{exception_form, exception_tree, context_of, context_tree, vmid_tree, with_context, short_high_tree, short_tree}
use Rattle.packet_reader.proofs.Meets.{Meets, meets_ok, meets_err, meets_byte, meets_where, meets_then, meets_as}

higher : (b high groups value : ℕ) → value + b * 128 ^ groups + high * 128 ^ (groups + 1) ≡ value + (b + 128 * high) * 128 ^ groups
higher b high groups value = let e : 128 ^ (groups + 1) ≡ 128 ^ groups * 128 = ap (λ k. 128 ^ k) (add-one groups) ∙ pow-suc 128 groups in rw e (grind arith)

higher_byte : (b high count value : ℕ) → value + b * 256 ^ count + high * 256 ^ (count + 1) ≡ value + (b + 256 * high) * 256 ^ count
higher_byte b high count value = let e : 256 ^ (count + 1) ≡ 256 ^ count * 256 = ap (λ k. 256 ^ k) (add-one count) ∙ pow-suc 256 count in rw e (grind arith)

pub meets_number : (left groups value : ℕ) (more : ℕ → Tree)
    → Meets (NumberWithin left) (λ n. more (value + n * 128 ^ groups)) (number_tree left groups value more)
unfolding number_tree
meets_number zero groups value more =
    let K : ℕ → Tree = λ n. more (value + n * 128 ^ groups) in
    meets_byte (λ b. Where (nat_lt b 16) (Known (Ok b)) (Known (Err NumberTooLong))) K
    (λ b. if nat_lt b 16 then more (value + b * 128 ^ groups) else known (Err NumberTooLong))
    (λ b. meets_where (nat_lt b 16) (Known (Ok b)) (Known (Err NumberTooLong)) K (K b) (known (Err NumberTooLong)) (meets_ok b K) (meets_err NumberTooLong K))
meets_number (suc left) groups value more =
    let K : ℕ → Tree = λ n. more (value + n * 128 ^ groups) in
    meets_byte (λ b. Where (nat_lt b 128) (Known (Ok b)) (As (NumberWithin left) (λ high. b - 128 + 128 * high))) K
    (λ b. if nat_lt b 128 then more (value + b * 128 ^ groups) else number_tree left (groups + 1) (value + (b - 128) * 128 ^ groups) more)
    (λ b. meets_where (nat_lt b 128) (Known (Ok b)) (As (NumberWithin left) (λ high. b - 128 + 128 * high)) K (K b)
    (number_tree left (groups + 1) (value + (b - 128) * 128 ^ groups) more)
    (meets_ok b K)
    (meets_as (NumberWithin left) (λ high. b - 128 + 128 * high) K (number_tree left (groups + 1) (value + (b - 128) * 128 ^ groups) more)
    (subst (λ (k : ℕ → Tree). Meets (NumberWithin left) k (number_tree left (groups + 1) (value + (b - 128) * 128 ^ groups) more))
    (λ i n. more (higher (b - 128) n groups value i)) (meets_number left (groups + 1) (value + (b - 128) * 128 ^ groups) more))))

-- a number of which nothing was read
pub meets_whole_number : (more : ℕ → Tree) → Meets Number more (number_tree 4 0 0 more)
meets_whole_number more =
    let same : (n : ℕ) → 0 + n * 128 ^ 0 ≡ n = λ n. grind arith in
    subst (λ (k : ℕ → Tree). Meets Number k (number_tree 4 0 0 more)) (λ i n. more (same n i)) (meets_number 4 0 0 more)

cons_same : (b : ℕ) (xs ys : List ℕ) → xs ≡ ys → ◌≡◌ {A = List ℕ} (b ∷ xs) (b ∷ ys)
cons_same b xs ys e = ap (λ t. b ∷ t) e

abbrev behind_bytes : ℕ → ℕ → (ℕ → Tree) → List ℕ → Tree
behind_bytes count value more given = more (value + little given * 256 ^ count)

bytes_to : (left count value : ℕ) (more : ℕ → Tree) (outcome : Outcome Packet) (bytes : List ℕ) → Leads (bytes_tree left count value more) outcome bytes
    → Then (Bytes left) (λ given. Leads (behind_bytes count value more given)) outcome bytes
unfolding bytes_tree
bytes_to zero count value more outcome bytes x =
    let same : value ≡ value + 0 * 256 ^ count = grind arith in
    inl ([], [], bytes, refl, (refl, refl), subst (λ n. Leads (more n) outcome bytes) same x)
bytes_to (suc left) count value more outcome [] x = absurd x
bytes_to (suc left) count value more outcome (b ∷ bytes) x = elim (bytes_to left (count + 1) (value + b * 256 ^ count) more outcome bytes x) [
  | inl (given, front, back, parts, (e, n), q) ↦
      inl (
        b ∷ given,
        b ∷ front,
        back,
        cons_same b bytes (front ++ back) parts,
        (cons_same b given front e, ap (λ k. suc k) n),
        subst (λ n. Leads (more n) outcome back) (higher_byte b (little given) count value) q,
      )
  | inr (f, o, p) ↦ absurd p
]

bytes_back : (left count value : ℕ) (more : ℕ → Tree) (outcome : Outcome Packet) (bytes : List ℕ) (given front back : List ℕ)
    → bytes ≡ front ++ back → given ≡ front → length front ≡ left → Leads (more (value + little given * 256 ^ count)) outcome back
    → Leads (bytes_tree left count value more) outcome bytes
unfolding bytes_tree
bytes_back zero count value more outcome bytes [] [] back parts e n q =
    let same : value + 0 * 256 ^ count ≡ value = grind arith in
    subst (λ t. Leads (more value) outcome t) (sym parts) (subst (λ k. Leads (more k) outcome back) same q)
bytes_back zero count value more outcome bytes given (b ∷ front) back parts e n q = absurd (omega (arith, n))
bytes_back zero count value more outcome bytes (c ∷ given) [] back parts e n q = absurd cc
bytes_back (suc left) count value more outcome bytes given [] back parts e n q = absurd (omega (arith, n))
bytes_back (suc left) count value more outcome bytes [] (b ∷ front) back parts e n q = absurd cc
bytes_back (suc left) count value more outcome bytes (c ∷ given) (b ∷ front) back parts e n q =
    let first : c ≡ b = cc in
    let others : given ≡ front = cc in
    let moved : Leads (more (value + b * 256 ^ count + little given * 256 ^ (count + 1))) outcome back =
    subst (λ k. Leads (more k) outcome back) (ap (λ x. value + (x + 256 * little given) * 256 ^ count) first ∙ sym (higher_byte b (little given) count value))
    q in
    subst (λ t. Leads (bytes_tree (suc left) count value more) outcome t) (sym parts)
    (bytes_back left (count + 1) (value + b * 256 ^ count) more outcome (front ++ back) given front back refl others (omega (arith, n)) moved)

bytes_back_all : (left count value : ℕ) (more : ℕ → Tree) (outcome : Outcome Packet) (bytes : List ℕ)
    → Then (Bytes left) (λ given. Leads (behind_bytes count value more given)) outcome bytes → Leads (bytes_tree left count value more) outcome bytes
bytes_back_all left count value more outcome bytes (inl (given, front, back, parts, (e, n), q)) = bytes_back left count value more outcome bytes given front
    back parts e n q
bytes_back_all left count value more outcome bytes (inr (f, o, p)) = absurd p

pub meets_bytes : (left count value : ℕ) (more : ℕ → Tree) → Meets (Bytes left) (behind_bytes count value more) (bytes_tree left count value more)
meets_bytes left count value more = record { to = bytes_to left count value more; back = bytes_back_all left count value more }

pub meets_field : (there : Bool) (size : ℕ) (more : Option ℕ → Tree) → Meets (Field there size) more (field_tree there size more)
meets_field there size more =
    let same : (n : ℕ) → 0 + n * 256 ^ 0 ≡ n = λ n. grind arith in
    meets_where (there && not (size == 0)) (As (Bytes size) (λ given. Some (little given))) (Known (Ok None)) more
    (bytes_tree size 0 0 (λ value. more (Some value))) (more None)
    (meets_as (Bytes size) (λ given. Some (little given)) more (bytes_tree size 0 0 (λ value. more (Some value)))
    (subst (λ (k : List ℕ → Tree). Meets (Bytes size) k (bytes_tree size 0 0 (λ value. more (Some value)))) (λ i given. more (Some (same (little given) i)))
    (meets_bytes size 0 0 (λ value. more (Some value)))))
    (meets_ok None more)

abbrev stamp_from : ℕ → ℕ → Stamp → Tree
stamp_from groups low stamp = known (Ok (Time (7 * groups + stamp.bits) (low + stamp.low * 128 ^ groups)))

stamp_higher : (b groups low : ℕ) (high : Stamp)
    → stamp_from (groups + 1) (low + b * 128 ^ groups) high ≡ stamp_from groups low (record { bits = 7 + high.bits; low = b + 128 * high.low })
stamp_higher b groups low high =
    let bits : 7 * (groups + 1) + high.bits ≡ 7 * groups + (7 + high.bits) = omega arith in
    (λ i. known (Ok (Time (bits i) (higher b high.low groups low i))))

pub meets_stamp : (left groups low : ℕ) → Meets (StampWithin left) (stamp_from groups low) (stamp_tree left groups low)
unfolding stamp_tree
meets_stamp zero groups low =
    meets_byte (λ b. Known (Ok (record { bits = 8; low = b }))) (stamp_from groups low) (λ b. known (Ok (Time (7 * groups + 8) (low + b * 128 ^ groups))))
    (λ b. meets_ok (record { bits = 8; low = b }) (stamp_from groups low))
meets_stamp (suc left) groups low =
    let K : Stamp → Tree = stamp_from groups low in
    meets_byte (λ b. Where (nat_lt b 128) (Known (Ok (record { bits = 7; low = b })))
    (As (StampWithin left) (λ high. record { bits = 7 + high.bits; low = b - 128 + 128 * high.low }))) K
    (λ b. if nat_lt b 128 then known (Ok (Time (7 * groups + 7) (low + b * 128 ^ groups))) else stamp_tree left (groups + 1) (low + (b - 128) * 128 ^ groups))
    (λ b. meets_where (nat_lt b 128) (Known (Ok (record { bits = 7; low = b })))
    (As (StampWithin left) (λ high. record { bits = 7 + high.bits; low = b - 128 + 128 * high.low })) K
    (K (record { bits = 7; low = b })) (stamp_tree left (groups + 1) (low + (b - 128) * 128 ^ groups))
    (meets_ok (record { bits = 7; low = b }) K)
    (meets_as (StampWithin left) (λ high. record { bits = 7 + high.bits; low = b - 128 + 128 * high.low }) K
    (stamp_tree left (groups + 1) (low + (b - 128) * 128 ^ groups))
    (subst (λ (k : Stamp → Tree). Meets (StampWithin left) k (stamp_tree left (groups + 1) (low + (b - 128) * 128 ^ groups)))
    (λ i high. stamp_higher (b - 128) groups low high i) (meets_stamp left (groups + 1) (low + (b - 128) * 128 ^ groups)))))

pub meets_time : Meets TimeStamp (λ stamp. known (Ok (Time stamp.bits stamp.low))) (stamp_tree 8 0 0)
meets_time =
    let bits : (n : ℕ) → 7 * 0 + n ≡ n = λ n. omega arith in
    let low : (n : ℕ) → 0 + n * 128 ^ 0 ≡ n = λ n. grind arith in
    subst (λ (k : Stamp → Tree). Meets TimeStamp k (stamp_tree 8 0 0)) (λ i stamp. known (Ok (Time (bits stamp.bits i) (low stamp.low i)))) (meets_stamp 8 0 0)

meets_section : (there : Bool) (number : Part ℕ) (more : Option ℕ → Tree) (tree : Tree) → Meets number (λ n. more (Some n)) tree
    → Meets (Section there number) more (if there then tree else more None)
meets_section there number more tree meets =
    meets_where there (As number (λ n. Some n)) (Known (Ok None)) more tree (more None) (meets_as number (λ n. Some n) more tree meets) (meets_ok None more)

abbrev End : Packet → Tree
End packet = known (Ok packet)

meets_cycles : (control : ℕ) (info key spec : Option ℕ)
    → Meets (As (Section (bit 3 control) Number) (λ cyct. Info info key spec cyct)) End (cycles_tree control info key spec)
meets_cycles control info key spec =
    meets_as (Section (bit 3 control) Number) (λ cyct. Info info key spec cyct) End (cycles_tree control info key spec)
    (meets_section (bit 3 control) Number (λ cyct. End (Info info key spec cyct)) (number_tree 4 0 0 (λ n. known (Ok (Info info key spec (Some n)))))
    (meets_whole_number (λ n. known (Ok (Info info key spec (Some n))))))

abbrev FromSpec : ℕ → Option ℕ → Option ℕ → Part Packet
FromSpec control info key = Then (Section (bit 2 control) Number) (λ spec. As (Section (bit 3 control) Number) (λ cyct. Info info key spec cyct))

meets_spec : (control : ℕ) (info key : Option ℕ) → Meets (FromSpec control info key) End (spec_tree control info key)
meets_spec control info key =
    meets_then (Section (bit 2 control) Number) (λ spec. As (Section (bit 3 control) Number) (λ cyct. Info info key spec cyct)) (cycles_tree control info key)
    End (spec_tree control info key)
    (meets_section (bit 2 control) Number (cycles_tree control info key) (number_tree 4 0 0 (λ n. cycles_tree control info key (Some n)))
    (meets_whole_number (λ n. cycles_tree control info key (Some n))))
    (λ spec. meets_cycles control info key spec)

abbrev FromKey : ℕ → Option ℕ → Part Packet
FromKey control info = Then (Section (bit 1 control) Number) (FromSpec control info)

meets_key : (control : ℕ) (info : Option ℕ) → Meets (FromKey control info) End (key_tree control info)
meets_key control info =
    meets_then (Section (bit 1 control) Number) (FromSpec control info) (spec_tree control info) End (key_tree control info)
    (meets_section (bit 1 control) Number (spec_tree control info) (number_tree 4 0 0 (λ n. spec_tree control info (Some n)))
    (meets_whole_number (λ n. spec_tree control info (Some n))))
    (λ key. meets_spec control info key)

mode_known : (test : Bool) (mode : ℕ) (more : ℕ → Tree)
    → Meets (Known (if test then Ok mode else Err (InfoMode mode))) more (if test then more mode else known (Err (InfoMode mode)))
mode_known true mode more = meets_ok mode more
mode_known false mode more = meets_err (InfoMode mode) more

meets_mode : (control : ℕ) → Meets Mode (λ mode. key_tree control (Some mode)) (number_tree 4 0 0 (mode_tree control))
meets_mode control =
    meets_then Number (λ mode. Known (if mode == 0 then Ok mode else Err (InfoMode mode))) (mode_tree control) (λ mode. key_tree control (Some mode))
    (number_tree 4 0 0 (mode_tree control))
    (meets_whole_number (mode_tree control))
    (λ mode. mode_known (mode == 0) mode (λ n. key_tree control (Some n)))

meets_sections : (control : ℕ) → Meets (Then (Section (bit 0 control) Mode) (FromKey control)) End (info_tree control)
meets_sections control =
    meets_then (Section (bit 0 control) Mode) (FromKey control) (key_tree control) End (info_tree control)
    (meets_section (bit 0 control) Mode (key_tree control) (number_tree 4 0 0 (mode_tree control)) (meets_mode control))
    (λ info. meets_key control info)

pub meets_info : Meets TraceInfo End control_tree
meets_info =
    meets_byte (λ control. Where (nat_lt control 16) (Then (Section (bit 0 control) Mode) (FromKey control)) (Known (Err (InfoControl control)))) End
    (λ control. if nat_lt control 16 then info_tree control else known (Err (InfoControl control)))
    (λ control. meets_where (nat_lt control 16) (Then (Section (bit 0 control) Mode) (FromKey control)) (Known (Err (InfoControl control))) End
    (info_tree control) (known (Err (InfoControl control)))
    (meets_sections control) (meets_err (InfoControl control) End))

pub meets_known : (outcome : Outcome Packet) → Meets (Known outcome) End (known outcome)
meets_known (Ok packet) = meets_ok packet End
meets_known (Err f) = meets_err f End

pub meets_exception : Meets Exception End exception_tree
meets_exception = meets_byte (λ b. Known (exception_form b)) End (λ b. known (exception_form b)) (λ b. meets_known (exception_form b))

pub meets_short : Meets ShortAddress (λ form. End (Addr form None)) short_tree
meets_short =
    let K : AddrForm → Tree = λ form. End (Addr form None) in
    meets_byte (λ a. Where (nat_lt a 128) (Known (Ok (Short1 (a * 4)))) (Byte (λ b. Known (Ok (Short2 ((a - 128) * 4 + b * 2 ^ 9)))))) K
    (λ a. if nat_lt a 128 then known (Ok (Addr (Short1 (a * 4)) None)) else short_high_tree ((a - 128) * 4))
    (λ a. meets_where (nat_lt a 128) (Known (Ok (Short1 (a * 4)))) (Byte (λ b. Known (Ok (Short2 ((a - 128) * 4 + b * 2 ^ 9))))) K (K (Short1 (a * 4)))
    (short_high_tree ((a - 128) * 4))
    (meets_ok (Short1 (a * 4)) K)
    (meets_byte (λ b. Known (Ok (Short2 ((a - 128) * 4 + b * 2 ^ 9)))) K (λ b. K (Short2 ((a - 128) * 4 + b * 2 ^ 9)))
    (λ b. meets_ok (Short2 ((a - 128) * 4 + b * 2 ^ 9)) K)))

abbrev Fields : Sizes → ℕ → Part CtxBits
Fields s info = Then (Field (bit 6 info) s.vmid_bytes) (λ vmid. As (Field (bit 7 info) s.cid_bytes) (λ cid. context_of info vmid cid))

meets_fields : (s : Sizes) (info : ℕ) (more : CtxBits → Tree)
    → Meets (Fields s info) more (field_tree (bit 6 info) s.vmid_bytes (λ vmid. field_tree (bit 7 info) s.cid_bytes (λ cid. more (context_of info vmid cid))))
meets_fields s info more =
    let inner : Option ℕ → Tree = λ vmid. field_tree (bit 7 info) s.cid_bytes (λ cid. more (context_of info vmid cid)) in
    meets_then (Field (bit 6 info) s.vmid_bytes) (λ vmid. As (Field (bit 7 info) s.cid_bytes) (λ cid. context_of info vmid cid)) inner more
    (field_tree (bit 6 info) s.vmid_bytes inner)
    (meets_field (bit 6 info) s.vmid_bytes inner)
    (λ vmid. meets_as (Field (bit 7 info) s.cid_bytes) (λ cid. context_of info vmid cid) more (inner vmid)
    (meets_field (bit 7 info) s.cid_bytes (λ cid. more (context_of info vmid cid))))

pub meets_context : (s : Sizes) (form : Option AddrForm) → Meets (Context s) (λ ctx. known (with_context form ctx)) (context_tree s form)
meets_context s form =
    let K : CtxBits → Tree = λ ctx. known (with_context form ctx) in
    meets_byte (λ info. Where (bit 4 info) (Fields s info) (Known (Err (Aarch32Context info)))) K
    (λ info. if bit 4 info then vmid_tree s form info else known (Err (Aarch32Context info)))
    (λ info. meets_where (bit 4 info) (Fields s info) (Known (Err (Aarch32Context info))) K (vmid_tree s form info) (known (Err (Aarch32Context info)))
    (meets_fields s info K) (meets_err (Aarch32Context info) K))

abbrev low_tree : ℕ → (ℕ → Tree) → Tree
low_tree high more = byte (λ a. byte (λ b. bytes_tree high 0 0 (λ value. more (a % 128 * 4 + b % 128 * 2 ^ 9 + value * 2 ^ 16))))

address_to : (high : ℕ) (more : ℕ → Tree) (outcome : Outcome Packet) (bytes : List ℕ) → Leads (low_tree high more) outcome bytes
    → Then (Bytes (suc (suc high))) (λ given. Leads (more (address_of given))) outcome bytes
address_to high more outcome [] x = absurd x
address_to high more outcome (a ∷ []) x = absurd x
address_to high more outcome (a ∷ b ∷ bytes) x = elim (bytes_to high 0 0 (λ value. more (a % 128 * 4 + b % 128 * 2 ^ 9 + value * 2 ^ 16)) outcome bytes x) [
  | inl (given, front, back, parts, (e, n), q) ↦
      let same : 0 + little given * 256 ^ 0 ≡ little given = grind arith in
      inl (
        a ∷ b ∷ given,
        a ∷ b ∷ front,
        back,
        cons_same a (b ∷ bytes) (b ∷ front ++ back) (cons_same b bytes (front ++ back) parts),
        (cons_same a (b ∷ given) (b ∷ front) (cons_same b given front e), ap (λ k. suc (suc k)) n),
        subst (λ k. Leads (more (a % 128 * 4 + b % 128 * 2 ^ 9 + k * 2 ^ 16)) outcome back) same q,
      )
  | inr (f, o, p) ↦ absurd p
]

address_back : (high : ℕ) (more : ℕ → Tree) (outcome : Outcome Packet) (bytes given front back : List ℕ) → bytes ≡ front ++ back → given ≡ front
    → length front ≡ suc (suc high)
    → Leads (more (address_of given)) outcome back → Leads (low_tree high more) outcome bytes
address_back high more outcome bytes given [] back parts e n q = absurd (omega (arith, n))
address_back high more outcome bytes given (a ∷ []) back parts e n q = absurd (omega (arith, n))
address_back high more outcome bytes given (a ∷ b ∷ front) back parts e n q =
    let moved : Leads (more (a % 128 * 4 + b % 128 * 2 ^ 9 + little front * 2 ^ 16)) outcome back =
    subst (λ g. Leads (more (address_of g)) outcome back) e q in
    let same : little front ≡ 0 + little front * 256 ^ 0 = grind arith in
    subst (λ t. Leads (low_tree high more) outcome t) (sym parts)
    (bytes_back high 0 0 (λ value. more (a % 128 * 4 + b % 128 * 2 ^ 9 + value * 2 ^ 16)) outcome (front ++ back) front front back refl refl (omega (arith, n))
    (subst (λ k. Leads (more (a % 128 * 4 + b % 128 * 2 ^ 9 + k * 2 ^ 16)) outcome back) same moved))

address_back_all : (high : ℕ) (more : ℕ → Tree) (outcome : Outcome Packet) (bytes : List ℕ)
    → Then (Bytes (suc (suc high))) (λ given. Leads (more (address_of given))) outcome bytes → Leads (low_tree high more) outcome bytes
address_back_all high more outcome bytes (inl (given, front, back, parts, (e, n), q)) = address_back high more outcome bytes given front back parts e n q
address_back_all high more outcome bytes (inr (f, o, p)) = absurd p

pub meets_address : (high : ℕ) (more : ℕ → Tree) → Meets (Bytes (suc (suc high))) (λ given. more (address_of given)) (low_tree high more)
meets_address high more = record { to = address_to high more; back = address_back_all high more }
