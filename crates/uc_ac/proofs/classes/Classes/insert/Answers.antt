use Rattle.std.proofs.Common.{◌≡◌, ◌++◌, ◌∷◌, [], List, ℕ, sym, ◌∙◌, ◌⊎◌, inl, inr, append-nil}
use Rattle.uc_term.specs.Keys.{names_of, AreDifferent}
use Rattle.uc_term.proofs.NameLists.{names_insert, different_insert, name_stored}
use Rattle.uc_ac.specs.Classes.{IsGrown}
use Rattle.uc_ac.proofs.classes.Classes.insert.Goals as goal

pub invariant_of-self-2 : goal.invariant_of-self-2
invariant_of-self-2 c = different_insert c.self.inside.list.keys c.insert_full.new.self.keys c.args.class c.in_ok-number.ensures.keys c.self.invariant

pub returns-clause-number : goal.returns-clause-number
returns-clause-number c =
    let s = c.in_ok-number.ensures.stored in
    name_stored c.self.inside.list.keys c.insert_full.new.self.keys c.args.class c.in_ok-number.number s.0 s.1 s.2

grows : (old new : List (List ℕ)) (class : List ℕ) → AreDifferent new → (new ≡ old) ⊎ (new ≡ old ++ class ∷ []) → IsGrown old new
grows old new class d (inl e) = record { more = []; new_is = e ∙ sym (append-nil old); different = λ _. d }
grows old new class d (inr e) = record { more = class ∷ []; new_is = e; different = λ _. d }

pub returns-clause-grown : goal.returns-clause-grown
returns-clause-grown c =
    rw (← c.self.view_is) (grows (names_of c.self.inside.list.keys) (names_of c.insert_full.new.self.keys) c.args.class.items (different_insert c.self.inside.list.keys c.insert_full.new.self.keys c.args.class c.in_ok-number.ensures.keys c.self.invariant) (names_insert c.self.inside.list.keys c.insert_full.new.self.keys c.args.class c.in_ok-number.ensures.keys))

pub returns-clause-different : goal.returns-clause-different
returns-clause-different c = different_insert c.self.inside.list.keys c.insert_full.new.self.keys c.args.class c.in_ok-number.ensures.keys c.self.invariant
