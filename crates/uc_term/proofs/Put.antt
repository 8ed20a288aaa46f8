-- The flat list of a term with a subterm replaced.
use Rattle.std.proofs.Common.{◌≡◌, ℕ, zero, suc, ◌+◌, ◌-◌, ◌<◌, ◌≤◌, List, [], ◌∷◌, ◌++◌, length, take, drop, get_or, refl, sym, ap, ap₂, ◌∙◌, arith, ◌⊎◌, inl, inr, append_assoc, append-nil, length-append, nat_lt, true, false, length-drop, drop-drop}
use Rattle.std.proofs.Math.Seq.{take-append_seam, drop-append_seam}
use Rattle.std.proofs.lemmas.List.{get_or_append_left, get_or-append_right, length-take-le}
use Rattle.std.proofs.lemmas.Bool.Decides.{nat_tests}
use Rattle.uc_term.specs.declared.node.Node.{Node}
use Rattle.uc_term.specs.declared.node.Node.TheVariants.{App}
use Rattle.uc_term.specs.Tree.{Tree, var, app, Trees, none, more, count, subterms, subterms_all, nodes, nodes_all, put, put_all}
use Rattle.uc_term.specs.Flat.{flat, flat_all, tree_of, first_of_trees}
use Rattle.uc_term.specs.Code.{spelled-flat}
use Rattle.uc_term.proofs.Terms.{length-flat, length-subterms, take_of_length-le}

if_below : (p n : ℕ) → p < n → nat_lt p n ≡ true
if_below p n h = grind (arith, nat_tests)

if_not_below : (p n : ℕ) → n ≤ p → nat_lt p n ≡ false
if_not_below p n h = grind (arith, nat_tests)

count-put_all : (ts : Trees) (p : ℕ) (u : Tree) → count (put_all ts p u) ≡ count ts
count-put_all none p u = refl
count-put_all (more t ts) p u = let d : (p < nodes t) ⊎ (nodes t ≤ p) = grind arith in
    elim d [ inl h ↦ rw (if_below p (nodes t) h) | inr h ↦ rw (if_not_below p (nodes t) h) (ap (λ n. n + 1) (count-put_all ts (p - nodes t) u)) ]

-- the list around what stands at a place
record Around (ns ms : List Node) (p : ℕ) (old new : Tree) : Type 0 where
  before : List Node
  after : List Node
  long : length before ≡ p
  was : ns ≡ before ++ (flat old ++ after)
  is : ms ≡ before ++ (flat new ++ after)

in_first : (t : Tree) (ts : Trees) (p : ℕ) (d u : Tree) → p < nodes t → Around (flat t) (flat (put t p u)) p (get_or (subterms t) p d) u → Around (flat_all (more t ts)) (flat_all (put_all (more t ts) p u)) p (get_or (subterms_all (more t ts)) p d) u
in_first t ts p d u h a =
    let at = get_or_append_left (subterms t) (subterms_all ts) d p (omega (arith, length-subterms t)) in
    rw (if_below p (nodes t) h, at) (record {
      before = a.before;
      after = a.after ++ flat_all ts;
      long = a.long;
      was = ap (λ l. l ++ flat_all ts) a.was ∙ append_assoc a.before (flat (get_or (subterms t) p d) ++ a.after) (flat_all ts) ∙ ap (λ l. a.before ++ l) (append_assoc (flat (get_or (subterms t) p d)) a.after (flat_all ts));
      is = ap (λ l. l ++ flat_all ts) a.is ∙ append_assoc a.before (flat u ++ a.after) (flat_all ts) ∙ ap (λ l. a.before ++ l) (append_assoc (flat u) a.after (flat_all ts));
    })

in_later : (t : Tree) (ts : Trees) (p : ℕ) (d u : Tree) → nodes t ≤ p → Around (flat_all ts) (flat_all (put_all ts (p - nodes t) u)) (p - nodes t) (get_or (subterms_all ts) (p - nodes t) d) u → Around (flat_all (more t ts)) (flat_all (put_all (more t ts) p u)) p (get_or (subterms_all (more t ts)) p d) u
in_later t ts p d u h a =
    let at = get_or-append_right (subterms t) (subterms_all ts) (nodes t) p d (length-subterms t) h in
    rw (if_not_below p (nodes t) h, at) (record {
      before = flat t ++ a.before;
      after = a.after;
      long = omega (arith, length-append (flat t) a.before, length-flat t, a.long);
      was = ap (λ l. flat t ++ l) a.was ∙ sym (append_assoc (flat t) a.before (flat (get_or (subterms_all ts) (p - nodes t) d) ++ a.after));
      is = ap (λ l. flat t ++ l) a.is ∙ sym (append_assoc (flat t) a.before (flat u ++ a.after));
    })

mutual
  around : (t : Tree) (p : ℕ) (d u : Tree) → p < nodes t → Around (flat t) (flat (put t p u)) p (get_or (subterms t) p d) u
  around (var x) zero d u h = record { before = []; after = []; long = refl; was = refl; is = sym (append-nil (flat u)) }
  around (var x) (suc p) d u h = absurd (omega arith)
  around (app f ts) zero d u h = record { before = []; after = []; long = refl; was = sym (append-nil (flat (app f ts))); is = sym (append-nil (flat u)) }
  around (app f ts) (suc p) d u h =
      let a = around_all ts p d u (omega arith) in
      record { before = App f (count ts) ∷ a.before; after = a.after; long = omega (arith, a.long); was = ap (λ l. App f (count ts) ∷ l) a.was; is = ap₂ (λ n l. App f n ∷ l) (count-put_all ts p u) a.is }

  around_all : (ts : Trees) (p : ℕ) (d u : Tree) → p < nodes_all ts → Around (flat_all ts) (flat_all (put_all ts p u)) p (get_or (subterms_all ts) p d) u
  around_all none p d u h = absurd (omega arith)
  around_all (more t ts) p d u h =
      let where_is : (p < nodes t) ⊎ (nodes t ≤ p) = grind arith in
      elim where_is [
        | inl k ↦ in_first t ts p d u k (around t p d u k)
        | inr k ↦ in_later t ts p d u k (around_all ts (p - nodes t) d u (omega arith))
      ]

by_around : (ns ms : List Node) (p e : ℕ) (old u : Tree) (a : Around ns ms p old u) → e ≡ p + nodes (tree_of (drop p ns)) → take p ns ++ (flat u ++ drop e ns) ≡ ms
by_around ns ms p e old u a q =
    let front : take p ns ≡ a.before = rw (a.was, ← a.long) (take-append_seam a.before (flat old ++ a.after)) in
    let rest : drop p ns ≡ flat old ++ a.after = rw (a.was, ← a.long) (drop-append_seam a.before (flat old ++ a.after)) in
    let first : tree_of (drop p ns) ≡ old = ap tree_of rest ∙ ap first_of_trees (spelled-flat old a.after) in
    let behind : drop e ns ≡ a.after = ap (λ k. drop k ns) (q ∙ ap (λ k. p + nodes k) first) ∙ sym (drop-drop (nodes old) p ns) ∙ ap (drop (nodes old)) rest ∙ ap (λ k. drop k (flat old ++ a.after)) (sym (length-flat old)) ∙ drop-append_seam (flat old) a.after in
    ap₂ (λ x y. x ++ (flat u ++ y)) front behind ∙ sym a.is

pub flat-put : (t u : Tree) (p e : ℕ) → p < nodes t → e ≡ p + nodes (tree_of (drop p (flat t))) → take p (flat t) ++ (flat u ++ drop e (flat t)) ≡ flat (put t p u)
flat-put t u p e h q = by_around (flat t) (flat (put t p u)) p e (get_or (subterms t) p t) u (around t p t u h) q

-- what `put` makes, and how long it is
pub put_list : (ns ms all : List Node) (t u : Tree) (p e : ℕ) → ns ≡ flat t → ms ≡ flat u → p < length ns → e ≡ p + nodes (tree_of (drop p ns)) → all ≡ take p ns ++ (ms ++ drop e ns) → all ≡ flat (put t p u)
put_list ns ms all t u p e is m h q a =
    let small : p < nodes t = omega (arith, ap length is, length-flat t) in
    let q' : e ≡ p + nodes (tree_of (drop p (flat t))) = rw is at q in
    a ∙ ap₂ (λ x y. take p x ++ (y ++ drop e x)) is m ∙ flat-put t u p e small q'

pub put_size : (ns ms : List Node) (t u : Tree) (p e : ℕ) → ns ≡ flat t → ms ≡ flat u → p < length ns → e ≡ p + nodes (tree_of (drop p ns)) → nodes (put t p u) ≡ p + length ms + (length ns - e)
put_size ns ms t u p e is m h q =
    let whole = put_list ns ms (take p ns ++ (ms ++ drop e ns)) t u p e is m h q refl in
    omega (arith, ap length whole, length-flat (put t p u), length-append (take p ns) (ms ++ drop e ns), length-append ms (drop e ns), length-drop e ns, length-take-le p ns (omega arith))

pub three_parts : (ns ms a b c d : List Node) (p e : ℕ) → a ≡ [] → b ≡ a ++ take p ns → c ≡ b ++ ms → d ≡ c ++ take (length ns - e) (drop e ns) → d ≡ take p ns ++ (ms ++ drop e ns)
three_parts ns ms a b c d p e ha hb hc hd =
    let tail : take (length ns - e) (drop e ns) ≡ drop e ns = take_of_length-le (drop e ns) (length ns - e) (omega (arith, length-drop e ns)) in
    hd ∙ ap₂ (λ x y. x ++ y) (hc ∙ ap (λ l. l ++ ms) (hb ∙ ap (λ l. l ++ take p ns) ha)) tail ∙ append_assoc (take p ns) ms (drop e ns)
