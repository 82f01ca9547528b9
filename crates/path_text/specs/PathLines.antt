-- The lines of a path.
use Rattle.std.specs.Prelude.{ℕ, zero, suc, ◌+◌, ◌%◌, ◌^◌, Bool, if◌then◌else◌, ◌==◌, List, [], ◌∷◌, ◌++◌, codes, Option, Some, None}
use Rattle.etm_types.specs.SameContext.{same_context}
use Rattle.etm_types.specs.Walked.{instructions}
use Rattle.etm_types.specs.declared.context.Ctx.{Ctx}
use Rattle.etm_types.specs.declared.item.Item.{Item}
use Rattle.etm_types.specs.declared.item.Item.TheVariants as item
use Rattle.etm_types.specs.declared.walked.Walked.{Walked}
use Rattle.path_text.specs.Lines.{hex, decimal, line_of, security}

abbrev pub whole_context_text : Ctx → List ℕ
whole_context_text ctx = codes "ctx el" ++ decimal ctx.el ++ security ctx.ns ++ hex ctx.vmid ++ codes " " ++ hex ctx.cid

-- the names of the exceptions that have one, by their types (Arm IHI 0064, exception types)
abbrev pub exception_names : List (ℕ × List ℕ)
exception_names =
    (0, codes "reset") ∷ (1, codes "debug-halt") ∷ (2, codes "call") ∷ (3, codes "trap") ∷ (4, codes "system-error")
    ∷ (6, codes "inst-debug") ∷ (7, codes "data-debug")
    ∷ (10, codes "alignment") ∷ (11, codes "inst-fault") ∷ (12, codes "data-fault") ∷ (14, codes "irq") ∷ (15, codes "fiq") ∷ []

-- the name of a type, or its number where it has none
abbrev pub name_among : List (ℕ × List ℕ) → ℕ → List ℕ
name_among [] kind = decimal kind
name_among (n ∷ names) kind = if n.0 == kind then n.1 else name_among names kind

-- an exception, by its type and its return address
abbrev pub exception_text : ℕ → ℕ → List ℕ
exception_text kind ret = codes "exc " ++ name_among exception_names kind ++ codes " " ++ hex ret

-- the line of a context, unless it was printed last
abbrev pub context_line : ℕ → Option Ctx → Ctx → List ℕ
context_line id None ctx = line_of id (whole_context_text ctx)
context_line id (Some shown) ctx = if same_context shown ctx then [] else line_of id (whole_context_text ctx)

-- the lines of an item, after the context that was printed last
abbrev pub item_lines : ℕ → Option Ctx → Item → List ℕ
item_lines id shown item.On = line_of id (codes "on")
item_lines id shown item.Gap = line_of id (codes "gap")
item_lines id shown item.Stop = line_of id (codes "stop")
item_lines id shown item.Unknown = line_of id (codes "?")
item_lines id shown (item.Instr address ctx took) = context_line id shown ctx ++ line_of id (hex address)
item_lines id shown (item.Exc kind ret) = line_of id (exception_text kind ret)

-- the context that was printed last, after an item
abbrev pub shown_after : Option Ctx → Item → Option Ctx
shown_after shown (item.Instr address ctx took) = Some ctx
shown_after shown _ = shown

abbrev pub lines_of : ℕ → Option Ctx → List Item → List ℕ
lines_of id shown [] = []
lines_of id shown (i ∷ items) = item_lines id shown i ++ lines_of id (shown_after shown i) items

abbrev pub shown_after_all : Option Ctx → List Item → Option Ctx
shown_after_all shown [] = shown
shown_after_all shown (i ∷ items) = shown_after_all (shown_after shown i) items

-- a line, where there is one
abbrev pub where_any : List ℕ → List (List ℕ)
where_any [] = []
where_any (b ∷ line) = (b ∷ line) ∷ []

-- the lines of an item one by one: an instruction may have one for its context before its own
abbrev pub item_line_list : ℕ → Option Ctx → Item → List (List ℕ)
item_line_list id shown (item.Instr address ctx took) = where_any (context_line id shown ctx) ++ line_of id (hex address) ∷ []
item_line_list id shown i = item_lines id shown i ∷ []

-- the lines of items one by one
abbrev pub line_list : ℕ → Option Ctx → List Item → List (List ℕ)
line_list id shown [] = []
line_list id shown (i ∷ items) = item_line_list id shown i ++ line_list id (shown_after shown i) items

-- the lines of so many instructions, one after the other, where their context was printed
abbrev pub instruction_lines : ℕ → ℕ → ℕ → List ℕ
instruction_lines id address zero = []
instruction_lines id address (suc n) = line_of id (hex address) ++ instruction_lines id ((address + 4) % 2 ^ 64) n

-- the line of trace on, where it is shown
abbrev pub on_line : ℕ → Bool → List ℕ
on_line id on = if on then line_of id (codes "on") else []

-- what is shown between trace on and the exception: one unknown stretch, or instructions
abbrev pub block_items : Walked → List Item
block_items w = if w.unknown then item.Unknown ∷ [] else instructions w.ctx w.start w.count w.took

-- the lines of the instructions of a walk, and the context that was printed last after them
abbrev pub run_lines : ℕ → Option Ctx → Walked → List ℕ
run_lines id shown w = lines_of id shown (instructions w.ctx w.start w.count w.took)

abbrev pub run_shown : Option Ctx → Walked → Option Ctx
run_shown shown w = shown_after_all shown (instructions w.ctx w.start w.count w.took)
