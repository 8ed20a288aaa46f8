-- The positionals of a command line are words of it, so they are short.
use Rattle.std.proofs.Common.{ℕ, ◌≡◌, ◌<◌, ◌^◌, Bool, true, false, nat_lt, List, [], ◌∷◌, ◌++◌, length, Option, Some, None, sym, subst, if◌then◌else◌, bytes_eq, drop}
use Rattle.std.specs.List.{list_all}
use Rattle.std.proofs.lemmas.Bool.{and_parts, ltb-true}
use Rattle.uc_words.specs.declared.command.Verb.{Verb}
use Rattle.uc_words.specs.declared.command.Command.{Command}
use Rattle.uc_words.specs.declared.form.Form.{Form}
use Rattle.uc_words.specs.declared.form.Form.TheVariants.{Plain, Ends, Flag, Takes, Has, Formless}
use Rattle.uc_words.specs.declared.line.Expects.{Expects}
use Rattle.uc_words.specs.declared.line.Expects.TheVariants.{Item, Value, Positional}
use Rattle.uc_words.specs.declared.table.Key.{Key}
use Rattle.uc_words.specs.Forms.{form_of}
use Rattle.uc_words.specs.Table.{verb_named}
use Rattle.uc_words.specs.Lines.{Line, item, turn, onto, at_end, line_of, given_value, is_value}
use Rattle.uc_words.specs.Reads.{is_clean, is_printable, with_items, with_verb, says, Reads}
use Rattle.uc_answer.specs.QuestionWords.{AreShort}

-- a line's positionals are short
abbrev IsShort : Option Line → Type 0
IsShort None = Unit {0}
IsShort (Some line) = AreShort line.positionals

abbrev Turned : Option (Line × Expects) → Type 0
Turned None = Unit {0}
Turned (Some t) = AreShort t.0.positionals

short_both : (xs ys : List (List ℕ)) → AreShort xs → AreShort ys → AreShort (xs ++ ys)
short_both [] ys h k = k
short_both (x ∷ xs) ys h k = (h.0, short_both xs ys h.1 k)

given_short : (k : Key) (w : List ℕ) → Turned (given_value k w)
given_short k w = go (bytes_eq w [])
  where
    go : (b : Bool) → Turned (if b then None else Some (record { given = (k, w) ∷ []; positionals = [] }, Item))
    go true = tt
    go false = tt

item_short : (form : Form) (w : List ℕ) → length w < 2 ^ 31 → Turned (item form w)
item_short Plain w h = (h, tt)
item_short Ends w h = tt
item_short (Flag k) w h = tt
item_short (Takes k) w h = tt
item_short (Has k at) w h = given_short k (drop at w)
item_short Formless w h = tt

value_short : (k : Key) (w : List ℕ) (b : Bool) → Turned (if b then Some (record { given = (k, w) ∷ []; positionals = [] }, Item) else None)
value_short k w true = tt
value_short k w false = tt

positional_short : (w : List ℕ) (b : Bool) → length w < 2 ^ 31 → Turned (if b then None else Some (record { given = []; positionals = w ∷ [] }, Positional))
positional_short w true h = tt
positional_short w false h = (h, tt)

turn_short : (v : Verb) (e : Expects) (w : List ℕ) → length w < 2 ^ 31 → Turned (turn v e w)
turn_short v Item w h = item_short (form_of v w) w h
turn_short v (Value k) w h = value_short k w (is_value w)
turn_short v Positional w h = positional_short w (bytes_eq w []) h

end_short : (e : Expects) → IsShort (at_end e)
end_short Item = tt
end_short (Value k) = tt
end_short Positional = tt

onto_short : (line : Line) (more : Option Line) → AreShort line.positionals → IsShort more → IsShort (onto line more)
onto_short line None h k = tt
onto_short line (Some more) h k = short_both line.positionals more.positionals h k

line_short : (v : Verb) (e : Expects) (ws : List (List ℕ)) → AreShort ws → IsShort (line_of v e ws)
line_short v e [] h = end_short e
line_short v e (w ∷ ws) h = go (turn v e w) (turn_short v e w h.0) (λ next. line_short v next ws h.1)
  where
    go : (t : Option (Line × Expects)) → Turned t → ((next : Expects) → IsShort (line_of v next ws)) → IsShort (elim t [ None ↦ None | Some p ↦ onto p.0 (line_of v p.1 ws) ])
    go None k later = tt
    go (Some p) k later = onto_short p.0 (line_of v p.1 ws) k (later p.1)

clean_short : (ws : List (List ℕ)) → list_all is_clean ws ≡ true → AreShort ws
clean_short [] e = tt
clean_short (w ∷ ws) e =
    let p = and_parts (is_clean w) (list_all is_clean ws) e in
    let q = and_parts (nat_lt (length w) (2 ^ 31)) (list_all is_printable w) p.0 in
    (ltb-true (length w) (2 ^ 31) q.0, clean_short ws p.1)

items_short : (v : Verb) (line : Option Line) (said : Verb × Line) → IsShort line → with_items v line ≡ Some said → AreShort said.1.positionals
items_short v None said h e = absurd cc
items_short v (Some line) said h e = let same : line ≡ said.1 = cc in subst (λ (l : Line). AreShort l.positionals) same h

verb_short : (v : Option Verb) (ws : List (List ℕ)) (said : Verb × Line) → AreShort ws → with_verb v ws ≡ Some said → AreShort said.1.positionals
verb_short None ws said h e = absurd cc
verb_short (Some v) ws said h e = items_short v (line_of v Item ws) said (line_short v Item ws h) e

says_short : (words : List (List ℕ)) (said : Verb × Line) → AreShort words → says words ≡ Some said → AreShort said.1.positionals
says_short [] said h e = absurd cc
says_short (name ∷ words) said h e = verb_short (verb_named name) words said h.1 e

pub positionals_short : (words : List (List ℕ)) (command : Command) → Reads words command → AreShort command.positionals
positionals_short words command r = subst AreShort (sym r.is.positionals) (says_short words r.said (clean_short words r.clean) r.says)
