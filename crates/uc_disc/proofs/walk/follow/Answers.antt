use Rattle.std.proofs.Common.{◌≡◌, IsTrue, ◌+◌, ◌<◌, ◌≤◌, ℕ, length, Bool, true, false, List, [], ◌∷◌, ◌++◌, sym, ap, ◌∙◌, arith, refl, get_or}
use Rattle.std.specs.Prelude.{slice_get, slice_index, slice_set, Some}
use Rattle.std.proofs.lemmas.List.{get_or-set_same, get_or-set_other}
use Rattle.std.proofs.lemmas.Option.{slice_get-get_or}
use Rattle.uc_term.specs.declared.node.Node.{Node}
use Rattle.uc_term.specs.declared.node.Node.TheVariants.{App}
use Rattle.uc_term.specs.Flat.{IsWhole}
use Rattle.uc_term.specs.Tree.{nodes}
use Rattle.uc_term.proofs.Terms.{whole_one}
use Rattle.uc_disc.specs.declared.place.Label.{Label}
use Rattle.uc_disc.specs.declared.place.Label.TheVariants.{Variable, Head}
use Rattle.uc_disc.specs.Standing.{part, Moves, Stands, IsFollowed}
use Rattle.uc_disc.proofs.Walks.{stands_more, fails_past, fails_head, fails_part}
use Rattle.uc_disc.proofs.walk.follow.Goals as goal

refused : (b : Bool) → b ≡ false → IsTrue b → ⊥
refused true e h = cc
refused false e h = cc

-- what is noted behind a depth
module _ (ns : List Node) (old : List ℕ) (depth q : ℕ) (room : depth + 1 < length old) where
  old_kept : (j : ℕ) → j ≤ depth → slice_index (slice_set old (depth + 1) q) j ≡ slice_index old j
  old_kept j h = get_or-set_other old (depth + 1) j q 0 (λ e. absurd (omega arith))

  new_noted : slice_index (slice_set old (depth + 1) q) (depth + 1) ≡ q
  new_noted = get_or-set_same old (depth + 1) q 0 room

  goes_on : (s : Label) → Moves ns (slice_set old (depth + 1) q) depth s → (path : List Label) → length path ≡ depth → Stands ns path old → Stands ns (path ++ s ∷ []) (slice_set old (depth + 1) q)
  goes_on s m path e st = stands_more ns path old (slice_set old (depth + 1) q) s st (λ j h. old_kept j (omega arith)) (rw e m)

module _ (ns : List Node) (w : IsWhole ns) (old : List ℕ) (depth : ℕ) where
  past : (s : Label) → length ns ≤ slice_index old depth → IsFollowed ns depth s old old false
  past s h = (refl, λ path e st. fails_past ns w path old st s (rw e h))

  head : (f a : ℕ) (m : Node) → slice_get ns (slice_index old depth) ≡ Some m → (m ≡ App (record { 0 = f }) a → ⊥) → IsFollowed ns depth (Head f a) old old false
  head f a m g other = (refl, λ path e st. fails_head ns w path old st f a m (rw e g) other)

  other_part : (k : ℕ) → k ≤ depth → ((slice_index old k < length ns) × (part ns (slice_index old k) ≡ part ns (slice_index old depth)) → ⊥) → IsFollowed ns depth (Variable k) old old false
  other_part k h other = (refl, λ path e st. fails_part ns w path old st k (omega arith) (rw e other))

pub returns-then-here-term-clause-value : goal.returns-then-here-term-clause-value
returns-then-here-term-clause-value c = past c.args.term.now c.requires.whole c.args.at.now c.args.depth c.args.label c.if-here-term.true

pub returns-else-is_head-clause-value : goal.returns-else-is_head-clause-value
returns-else-is_head-clause-value c =
    rw c.in-Head.is (head c.args.term.now c.requires.whole c.args.at.now c.args.depth c.in-Head.f c.in-Head.n (get_or c.args.term.now (slice_index c.args.at.now c.args.depth) _) (slice_get-get_or c.args.term.now (slice_index c.args.at.now c.args.depth) _ c.if-here-term.false) (λ e. refused c.is_head.result c.if-is_head.false (c.is_head.ensures.1 e)))

pub returns-then-is_head-clause-value : goal.returns-then-is_head-clause-value
returns-then-is_head-clause-value c =
    rw c.in-Head.is (goes_on c.args.term.now c.args.at.now c.args.depth (slice_index c.args.at.now c.args.depth + 1) c.requires.room (Head c.in-Head.f c.in-Head.n)
    (let o = old_kept c.args.term.now c.args.at.now c.args.depth (slice_index c.args.at.now c.args.depth + 1) c.requires.room c.args.depth (omega arith) in
    let n = new_noted c.args.term.now c.args.at.now c.args.depth (slice_index c.args.at.now c.args.depth + 1) c.requires.room in
    (ap (slice_get c.args.term.now) o ∙ slice_get-get_or c.args.term.now (slice_index c.args.at.now c.args.depth) _ c.if-here-term.false ∙ ap Some (c.is_head.ensures.0 c.if-is_head.true), n ∙ ap (λ z. z + 1) (sym o))))

moves_part : (ns : List Node) (old : List ℕ) (depth k q : ℕ) → depth + 1 < length old → k ≤ depth → slice_index old depth < length ns → part ns (slice_index old k) ≡ part ns (slice_index old depth) → q ≡ slice_index old depth + nodes (part ns (slice_index old depth)) → Moves ns (slice_set old (depth + 1) q) depth (Variable k)
moves_part ns old depth k q room h inside e is =
    let o = old_kept ns old depth q room in
    rw (o k h, o depth (omega arith), new_noted ns old depth q room) (h, inside, e, is)

pub end_of-requires-clause-whole : goal.end_of-requires-clause-whole
end_of-requires-clause-whole c = whole_one c.args.term.now c.requires.whole

pub returns-then-is_same_part-clause-value : goal.returns-then-is_same_part-clause-value
returns-then-is_same_part-clause-value c =
    rw c.in-Variable.is (goes_on c.args.term.now c.args.at.now c.args.depth _ c.requires.room (Variable c.in-Variable.k) (moves_part c.args.term.now c.args.at.now c.args.depth c.in-Variable.k _ c.requires.room (rw c.in-Variable.is at c.requires.back) c.if-here-term.false (c.is_same_part.ensures.0 c.if-is_same_part.true).1 c.end_of.ensures.end))

pub returns-else-is_same_part-clause-value : goal.returns-else-is_same_part-clause-value
returns-else-is_same_part-clause-value c =
    rw c.in-Variable.is (other_part c.args.term.now c.requires.whole c.args.at.now c.args.depth c.in-Variable.k (rw c.in-Variable.is at c.requires.back) (λ h. refused c.is_same_part.result c.if-is_same_part.false (c.is_same_part.ensures.1 h)))
