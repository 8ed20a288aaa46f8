-- The positionals of a command line and the values of its options are of visible bytes and spaces, and no positional is empty.
use Rattle.std.proofs.Common.{ℕ, zero, suc, ◌≡◌, ◌<◌, Bool, true, false, nat_lt, List, [], ◌∷◌, ◌++◌, length, Option, Some, None, refl, sym, subst, if◌then◌else◌, bytes_eq, drop, arith}
use Rattle.std.specs.List.{list_all}
use Rattle.std.proofs.lemmas.Bool.{and_parts}
use Rattle.uc_words.specs.declared.command.Verb.{Verb}
use Rattle.uc_words.specs.declared.command.Command.{Command}
use Rattle.uc_words.specs.declared.form.Form.{Form}
use Rattle.uc_words.specs.declared.form.Form.TheVariants.{Plain, Ends, Flag, Takes, Has, Formless}
use Rattle.uc_words.specs.declared.line.Expects.{Expects}
use Rattle.uc_words.specs.declared.line.Expects.TheVariants.{Item, Value, Positional}
use Rattle.uc_words.specs.declared.table.Key.{Key}
use Rattle.uc_words.specs.declared.table.Key.TheVariants as key
use Rattle.uc_words.specs.Forms.{form_of}
use Rattle.uc_words.specs.Table.{verb_named}
use Rattle.uc_words.specs.Lines.{Line, item, turn, onto, at_end, line_of, given_value, is_value, value, same}
use Rattle.uc_words.specs.Reads.{is_clean, is_printable, with_items, with_verb, says, Reads}
use Rattle.uc_answer.specs.PrintableProblems.{are_seen, IsRootSeen}

abbrev AllSeen : List (List ℕ) → Type 0
AllSeen [] = Unit {0}
AllSeen (w ∷ ws) = (are_seen w ≡ true) × AllSeen ws

abbrev pub AreTitles : List (List ℕ) → Type 0
AreTitles [] = Unit {0}
AreTitles (w ∷ ws) = ((0 < length w) × (are_seen w ≡ true)) × AreTitles ws

abbrev ValuesSeen : List (Key × List ℕ) → Type 0
ValuesSeen [] = Unit {0}
ValuesSeen (g ∷ gs) = (are_seen g.1 ≡ true) × ValuesSeen gs

abbrev LineSeen : Line → Type 0
LineSeen line = AreTitles line.positionals × ValuesSeen line.given

abbrev IsSeen : Option Line → Type 0
IsSeen None = Unit {0}
IsSeen (Some line) = LineSeen line

abbrev Turned : Option (Line × Expects) → Type 0
Turned None = Unit {0}
Turned (Some t) = LineSeen t.0

titles_both : (xs ys : List (List ℕ)) → AreTitles xs → AreTitles ys → AreTitles (xs ++ ys)
titles_both [] ys h k = k
titles_both (x ∷ xs) ys h k = (h.0, titles_both xs ys h.1 k)

values_both : (xs ys : List (Key × List ℕ)) → ValuesSeen xs → ValuesSeen ys → ValuesSeen (xs ++ ys)
values_both [] ys h k = k
values_both (x ∷ xs) ys h k = (h.0, values_both xs ys h.1 k)

drop_seen : (n : ℕ) (w : List ℕ) → are_seen w ≡ true → are_seen (drop n w) ≡ true
drop_seen zero w e = e
drop_seen (suc n) [] e = refl
drop_seen (suc n) (b ∷ bs) e = drop_seen n bs (and_parts (is_printable b) (are_seen bs) e).1

given_seen : (k : Key) (w : List ℕ) → are_seen w ≡ true → Turned (given_value k w)
given_seen k w h = go (bytes_eq w [])
  where
    go : (b : Bool) → Turned (if b then None else Some (record { given = (k, w) ∷ []; positionals = [] }, Item))
    go true = tt
    go false = (tt, (h, tt))

item_seen : (form : Form) (w : List ℕ) → are_seen w ≡ true → (form ≡ Plain → 0 < length w) → Turned (item form w)
item_seen Plain w h some = (((some refl, h), tt), tt)
item_seen Ends w h some = (tt, tt)
item_seen (Flag k) w h some = (tt, (refl, tt))
item_seen (Takes k) w h some = (tt, tt)
item_seen (Has k at) w h some = given_seen k (drop at w) (drop_seen at w h)
item_seen Formless w h some = tt

value_seen : (k : Key) (w : List ℕ) (b : Bool) → are_seen w ≡ true → Turned (if b then Some (record { given = (k, w) ∷ []; positionals = [] }, Item) else None)
value_seen k w true h = (tt, (h, tt))
value_seen k w false h = tt

positional_seen : (w : List ℕ) → are_seen w ≡ true → Turned (if bytes_eq w [] then None else Some (record { given = []; positionals = w ∷ [] }, Positional))
positional_seen [] h = tt
positional_seen (b ∷ bs) h = (((omega arith, h), tt), tt)

plain_some : (v : Verb) (w : List ℕ) → form_of v w ≡ Plain → 0 < length w
plain_some v [] e = absurd cc
plain_some v (b ∷ bs) e = omega arith

turn_seen : (v : Verb) (e : Expects) (w : List ℕ) → are_seen w ≡ true → Turned (turn v e w)
turn_seen v Item w h = item_seen (form_of v w) w h (plain_some v w)
turn_seen v (Value k) w h = value_seen k w (is_value w) h
turn_seen v Positional w h = positional_seen w h

end_seen : (e : Expects) → IsSeen (at_end e)
end_seen Item = (tt, tt)
end_seen (Value k) = tt
end_seen Positional = (tt, tt)

onto_seen : (line : Line) (more : Option Line) → LineSeen line → IsSeen more → IsSeen (onto line more)
onto_seen line None h k = tt
onto_seen line (Some more) h k = (titles_both line.positionals more.positionals h.0 k.0, values_both line.given more.given h.1 k.1)

line_seen : (v : Verb) (e : Expects) (ws : List (List ℕ)) → AllSeen ws → IsSeen (line_of v e ws)
line_seen v e [] h = end_seen e
line_seen v e (w ∷ ws) h = go (turn v e w) (turn_seen v e w h.0) (λ next. line_seen v next ws h.1)
  where
    go : (t : Option (Line × Expects)) → Turned t → ((next : Expects) → IsSeen (line_of v next ws)) → IsSeen (elim t [ None ↦ None | Some p ↦ onto p.0 (line_of v p.1 ws) ])
    go None k later = tt
    go (Some p) k later = onto_seen p.0 (line_of v p.1 ws) k (later p.1)

clean_seen : (ws : List (List ℕ)) → list_all is_clean ws ≡ true → AllSeen ws
clean_seen [] e = tt
clean_seen (w ∷ ws) e =
    let p = and_parts (is_clean w) (list_all is_clean ws) e in
    let q = and_parts (nat_lt (length w) 2147483648) (list_all is_printable w) p.0 in
    (q.1, clean_seen ws p.1)

items_seen : (v : Verb) (line : Option Line) (said : Verb × Line) → IsSeen line → with_items v line ≡ Some said → LineSeen said.1
items_seen v None said h e = absurd cc
items_seen v (Some line) said h e = let one : line ≡ said.1 = cc in subst LineSeen one h

verb_seen : (v : Option Verb) (ws : List (List ℕ)) (said : Verb × Line) → AllSeen ws → with_verb v ws ≡ Some said → LineSeen said.1
verb_seen None ws said h e = absurd cc
verb_seen (Some v) ws said h e = items_seen v (line_of v Item ws) said (line_seen v Item ws h) e

says_seen : (words : List (List ℕ)) (said : Verb × Line) → AllSeen words → says words ≡ Some said → LineSeen said.1
says_seen [] said h e = absurd cc
says_seen (name ∷ words) said h e = verb_seen (verb_named name) words said h.1 e

option_seen : (k : Key) (given : List (Key × List ℕ)) → ValuesSeen given → IsRootSeen (value k given)
option_seen k [] h = tt
option_seen k (g ∷ gs) h = go (same g.0 k) (option_seen k gs h.1)
  where
    go : (b : Bool) → IsRootSeen (value k gs) → IsRootSeen (if b then Some g.1 else value k gs)
    go true later = h.0
    go false later = later

pub positionals_seen : (words : List (List ℕ)) (command : Command) → Reads words command → AreTitles command.positionals
positionals_seen words command r = subst AreTitles (sym r.is.positionals) (says_seen words r.said (clean_seen words r.clean) r.says).0

pub root_seen : (words : List (List ℕ)) (command : Command) → Reads words command → IsRootSeen command.root
root_seen words command r = subst IsRootSeen (sym r.is.root) (option_seen key.Root r.said.1.given (says_seen words r.said (clean_seen words r.clean) r.says).1)
