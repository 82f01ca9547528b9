-- The lines of items one by one.
use Rattle.std.proofs.Common.{◌≡◌, ℕ, Bool, true, false, if◌then◌else◌, List, [], ◌∷◌, ◌++◌, Option, Some, None, refl, sym, ap, ◌∙◌}
use Rattle.std.proofs.Common.{append_assoc, append-nil}
use Rattle.std.specs.Prelude.{All, codes}
use Rattle.std.specs.List.{concat}
use Rattle.std.proofs.lemmas.List.Elements.{All-nil, All-cons, All-append}
use Rattle.std.proofs.lemmas.List.Folds.{concat-append}
use Rattle.etm_types.specs.SameContext.{same_context}
use Rattle.etm_types.specs.declared.context.Ctx.{Ctx}
use Rattle.etm_types.specs.declared.item.Item.{Item}
use Rattle.etm_types.specs.declared.item.Item.TheVariants as item
use Rattle.path_text.specs.Lines.{IsLine, hex, line_of}
use Rattle.path_text.specs.PathLines.{context_line, exception_text, item_line_list, item_lines, line_list, lines_of, shown_after, shown_after_all}
use Rattle.path_text.specs.PathLines.{where_any, whole_context_text}
use Rattle.path_text.proofs.Feeds.{address_other, context_other, exception_other, line_is, written}

-- ---- they are what is printed

any_alone : (line : List ℕ) → concat (where_any line) ≡ line
any_alone [] = refl
any_alone (b ∷ line) = append-nil (b ∷ line)

item_joined : (id : ℕ) (shown : Option Ctx) (i : Item) → concat (item_line_list id shown i) ≡ item_lines id shown i
item_joined id shown item.On = append-nil (item_lines id shown item.On)
item_joined id shown item.Gap = append-nil (item_lines id shown item.Gap)
item_joined id shown item.Stop = append-nil (item_lines id shown item.Stop)
item_joined id shown item.Unknown = append-nil (item_lines id shown item.Unknown)
item_joined id shown (item.Instr address ctx took) =
    let own = line_of id (hex address) in
    concat-append (where_any (context_line id shown ctx)) (own ∷ []) ∙ ap (λ l. l ++ (own ++ [])) (any_alone (context_line id shown ctx))
    ∙ ap (λ l. context_line id shown ctx ++ l) (append-nil own)
item_joined id shown (item.Exc kind ret) = append-nil (item_lines id shown (item.Exc kind ret))

pub list_joined : (id : ℕ) (shown : Option Ctx) (items : List Item) → concat (line_list id shown items) ≡ lines_of id shown items
list_joined id shown [] = refl
list_joined id shown (i ∷ items) =
    concat-append (item_line_list id shown i) (line_list id (shown_after shown i) items)
    ∙ ap (λ l. l ++ concat (line_list id (shown_after shown i) items)) (item_joined id shown i)
    ∙ ap (λ l. item_lines id shown i ++ l) (list_joined id (shown_after shown i) items)

pub line_list-append : (id : ℕ) (shown : Option Ctx) (items more : List Item)
    → line_list id shown (items ++ more) ≡ line_list id shown items ++ line_list id (shown_after_all shown items) more
line_list-append id shown [] more = refl
line_list-append id shown (i ∷ items) more =
    ap (λ l. item_line_list id shown i ++ l) (line_list-append id (shown_after shown i) items more)
    ∙ sym (append_assoc (item_line_list id shown i) (line_list id (shown_after shown i) items) _)

-- ---- each is a line

one_line : (line : List ℕ) → IsLine line → All IsLine (line ∷ [])
one_line line is = All-cons IsLine line [] is (All-nil IsLine)

any_line : (line : List ℕ) → IsLine line → All IsLine (where_any line)
any_line [] is = All-nil IsLine
any_line (b ∷ line) is = one_line (b ∷ line) is

line_unless : (test : Bool) (line : List ℕ) → IsLine line → All IsLine (where_any (if test then [] else line))
line_unless true line is = All-nil IsLine
line_unless false line is = any_line line is

context_is : (id : ℕ) (ctx : Ctx) → IsLine (line_of id (whole_context_text ctx))
context_is id ctx = line_is id (whole_context_text ctx) (context_other ctx)

context_once : (id : ℕ) (shown : Option Ctx) (ctx : Ctx) → All IsLine (where_any (context_line id shown ctx))
context_once id None ctx = any_line (line_of id (whole_context_text ctx)) (context_is id ctx)
context_once id (Some last) ctx = line_unless (same_context last ctx) (line_of id (whole_context_text ctx)) (context_is id ctx)

item_each : (id : ℕ) (shown : Option Ctx) (i : Item) → All IsLine (item_line_list id shown i)
item_each id shown item.On = one_line (line_of id (codes "on")) (line_is id (codes "on") (written (codes "on") refl))
item_each id shown item.Gap = one_line (line_of id (codes "gap")) (line_is id (codes "gap") (written (codes "gap") refl))
item_each id shown item.Stop = one_line (line_of id (codes "stop")) (line_is id (codes "stop") (written (codes "stop") refl))
item_each id shown item.Unknown = one_line (line_of id (codes "?")) (line_is id (codes "?") (written (codes "?") refl))
item_each id shown (item.Instr address ctx took) =
    All-append IsLine (where_any (context_line id shown ctx)) (line_of id (hex address) ∷ []) (context_once id shown ctx)
    (one_line (line_of id (hex address)) (line_is id (hex address) (address_other address)))
item_each id shown (item.Exc kind ret) =
    one_line (line_of id (exception_text kind ret)) (line_is id (exception_text kind ret) (exception_other kind ret))

pub list_each : (id : ℕ) (shown : Option Ctx) (items : List Item) → All IsLine (line_list id shown items)
list_each id shown [] = All-nil IsLine
list_each id shown (i ∷ items) =
    All-append IsLine (item_line_list id shown i) (line_list id (shown_after shown i) items) (item_each id shown i) (list_each id (shown_after shown i) items)
