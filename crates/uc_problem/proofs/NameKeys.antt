-- Texts and names put to sets of keys.
use Rattle.std.proofs.Common.{◌≡◌, ℕ, ◌+◌, ◌<◌, List, [], ◌∷◌, ◌++◌, Bool, true, false, ◌≤◌, length, drop, drop-cons, get_or, add-one, refl, sym, ap, ◌∙◌}
use Rattle.std.specs.Prelude.{◌||◌, ◌&&◌, bytes_eq, if◌then◌else◌, Vec}
use Rattle.std.specs.List.{list_any}
use Rattle.std.proofs.lemmas.List.{drop_all}
use Rattle.std.proofs.lemmas.Bool.{false≢true}
use Rattle.std.specs.declared.alloc.Global.{Global}
use Rattle.std.specs.Cmp.Lexicographic.{bytes_decides}
use Rattle.uc_clause.specs.declared.clause.Name.{Name}
use Rattle.uc_clause.proofs.Seen.{same}
use Rattle.uc_problem.specs.Loading.{same_name}
use Rattle.uc_problem.specs.NameSets.{has_text, has_name}

or_false : (b : Bool) → (b || false) ≡ b
or_false true = refl
or_false false = refl

or_assoc : (a b c : Bool) → ((a || b) || c) ≡ (a || (b || c))
or_assoc true b c = refl
or_assoc false b c = refl

-- a text put behind keys
has_text-behind : (ks : List (Vec ℕ Global)) (k : Vec ℕ Global) (t : List ℕ) → has_text (ks ++ k ∷ []) t ≡ (has_text ks t || bytes_eq t k.items)
has_text-behind [] k t = or_false (bytes_eq t k.items)
has_text-behind (x ∷ ks) k t = ap (λ b. bytes_eq t x.items || b) (has_text-behind ks k t) ∙ sym (or_assoc (bytes_eq t x.items) (has_text ks t) (bytes_eq t k.items))

-- equal texts are found alike
eq-sym : (a b : List ℕ) → bytes_eq a b ≡ bytes_eq b a
eq-sym a b = go (bytes_eq a b) (bytes_eq b a) refl refl
  where
    go : (x y : Bool) → bytes_eq a b ≡ x → bytes_eq b a ≡ y → x ≡ y
    go true true e f = refl
    go false false e f = refl
    go true false e f = sym ((bytes_decides b a).1 (sym ((bytes_decides a b).0 e))) ∙ f
    go false true e f = sym e ∙ (bytes_decides a b).1 (sym ((bytes_decides b a).0 f))

or_true : (b : Bool) → (b || true) ≡ true
or_true true = refl
or_true false = refl

and_false : (b : Bool) → (b && false) ≡ false
and_false true = refl
and_false false = refl

and_true : (b : Bool) → (b && true) ≡ b
and_true true = refl
and_true false = refl

stands_at : (ks : List (Vec ℕ Global)) (x k : Vec ℕ Global) (t : List ℕ) → bytes_eq t k.items ≡ true → (list_any (same k) ks ≡ true → has_text ks t ≡ true) → (b : Bool) → same k x ≡ b → (b || list_any (same k) ks) ≡ true → has_text (x ∷ ks) t ≡ true
stands_at ks x k t e later true like any = ap (λ b. b || has_text ks t) ((bytes_decides t x.items).1 ((bytes_decides t k.items).0 e ∙ (bytes_decides k.items x.items).0 like))
stands_at ks x k t e later false like any = ap (λ b. bytes_eq t x.items || b) (later any) ∙ or_true (bytes_eq t x.items)

stands : (ks : List (Vec ℕ Global)) (k : Vec ℕ Global) (t : List ℕ) → bytes_eq t k.items ≡ true → list_any (same k) ks ≡ true → has_text ks t ≡ true
stands [] k t e any = absurd (false≢true any)
stands (x ∷ ks) k t e any = stands_at ks x k t e (stands ks k t e) (same k x) refl any

-- a text put to keys, where it may stand already
pub has_text-insert : (ks new : List (Vec ℕ Global)) (k : Vec ℕ Global) → new ≡ (if list_any (same k) ks then ks else ks ++ k ∷ []) → (t : List ℕ) → has_text new t ≡ (has_text ks t || bytes_eq k.items t)
has_text-insert ks new k e t = rw (e) (go (list_any (same k) ks) refl)
  where
    found : list_any (same k) ks ≡ true → (b : Bool) → bytes_eq t k.items ≡ b → has_text ks t ≡ (has_text ks t || b)
    found any true f = stands ks k t f any ∙ sym (ap (λ b. b || true) (stands ks k t f any))
    found any false f = sym (or_false (has_text ks t))

    go : (b : Bool) → list_any (same k) ks ≡ b → has_text (if b then ks else ks ++ k ∷ []) t ≡ (has_text ks t || bytes_eq k.items t)
    go true any = found any (bytes_eq k.items t) (eq-sym t k.items)
    go false any = has_text-behind ks k t ∙ ap (λ b. has_text ks t || b) (eq-sym t k.items)

-- a word put to the words
pub has_name-word : (words new integers : List (Vec ℕ Global)) (k : Vec ℕ Global) (name : Name) → k.items ≡ name.text → name.integer ≡ false → new ≡ (if list_any (same k) words then words else words ++ k ∷ []) → (n : Name) → has_name new integers n ≡ (has_name words integers n || same_name name n)
has_name-word words new integers k name text kind e n = go n.integer refl
  where
    go : (b : Bool) → n.integer ≡ b → has_name new integers n ≡ (has_name words integers n || same_name name n)
    go true i = rw (i, kind, ← text) (sym (ap (λ b. has_text integers n.text || b) (and_false (bytes_eq k.items n.text)) ∙ or_false (has_text integers n.text)))
    go false i = rw (i, kind, ← text) (has_text-insert words new k e n.text ∙ ap (λ b. has_text words n.text || b) (sym (and_true (bytes_eq k.items n.text))))

-- an integer put to the integers
pub has_name-integer : (words integers new : List (Vec ℕ Global)) (k : Vec ℕ Global) (name : Name) → k.items ≡ name.text → name.integer ≡ true → new ≡ (if list_any (same k) integers then integers else integers ++ k ∷ []) → (n : Name) → has_name words new n ≡ (has_name words integers n || same_name name n)
has_name-integer words integers new k name text kind e n = go n.integer refl
  where
    go : (b : Bool) → n.integer ≡ b → has_name words new n ≡ (has_name words integers n || same_name name n)
    go true i = rw (i, kind, ← text) (has_text-insert integers new k e n.text ∙ ap (λ b. has_text integers n.text || b) (sym (and_true (bytes_eq k.items n.text))))
    go false i = rw (i, kind, ← text) (sym (ap (λ b. has_text words n.text || b) (and_false (bytes_eq k.items n.text)) ∙ or_false (has_text words n.text)))

-- what is among the members so far or among those behind is among all, once none is left
pub nothing_behind : {X : Type 0} (test : List X → Bool) (xs : List X) (n : ℕ) (b : Bool) → test [] ≡ false → test xs ≡ (b || test (drop n xs)) → length xs ≤ n → b ≡ test xs
nothing_behind test xs n b none all end = sym (all ∙ ap (λ r. b || r) (ap test (drop_all n xs end) ∙ none) ∙ or_false b)

-- the member of this number moves from those behind to those so far
pub one_behind : {X : Type 0} (test : List X → Bool) (one : X → Bool) → ((x : X) (xs : List X) → test (x ∷ xs) ≡ (one x || test xs)) → (xs : List X) (n : ℕ) (x : X) (a b : Bool) → n < length xs → x ≡ get_or xs n x → test xs ≡ (a || test (drop n xs)) → b ≡ (a || one x) → test xs ≡ (b || test (drop (n + 1) xs))
one_behind test one step xs n x a b less at all e =
    let here : drop n xs ≡ get_or xs n x ∷ drop (n + 1) xs = rw (add-one, drop-cons xs n x) refl in
    let split = ap test here ∙ step (get_or xs n x) (drop (n + 1) xs) ∙ ap (λ y. one y || test (drop (n + 1) xs)) (sym at) in
    all ∙ ap (λ r. a || r) split ∙ sym (or_assoc a (one x) (test (drop (n + 1) xs))) ∙ ap (λ r. r || test (drop (n + 1) xs)) (sym e)
