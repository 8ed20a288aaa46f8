-- The tokens of a term, or of an equation of two, that are no marks are its nodes, in order.
use Rattle.std.proofs.Common.{◌⊎◌, inl, inr, ℕ, zero, suc, ◌+◌, ◌≡◌, ◌==◌, not, Bool, true, false, cond, List, [], ◌∷◌, ◌++◌, slice_get, drop, if◌then◌else◌, Option, Some, None, refl, sym, ap, ◌∙◌, subst, arith, append_assoc}
use Rattle.std.proofs.lemmas.List.{append-nil}
use Rattle.uc_clause.specs.declared.token.Token.{Token}
use Rattle.uc_clause.specs.declared.token.Kind.{Kind}
use Rattle.uc_clause.specs.declared.token.Kind.TheVariants as kind
use Rattle.uc_clause.specs.declared.terminal.Terminal.{Terminal}
use Rattle.uc_clause.specs.declared.terminal.Terminal.TheVariants.{Open, Close, OpenSquare, CloseSquare, Comma, Dot, Equal, Bar, Tilde, Star, OtherMark}
use Rattle.uc_clause.specs.declared.grammar.head.Head.TheVariants.{Variable, Functor, Neither}
use Rattle.uc_clause.specs.declared.grammar.head.Head.{Head}
use Rattle.uc_clause.specs.Terminals.{terminal_of_mark, terminal_of_kind, terminal_or_end, terminal_at}
use Rattle.uc_clause.specs.Rules.{Outcome, read, stop, mapped, goes_on}
use Rattle.uc_clause.specs.Parse.{Parse, applied, Parses, also, leaves, leaves_all, Sides}
use Rattle.uc_clause.specs.Terms.{head_of, head_at, Term, is_variable, is_constant, is_applied, is_node_too_many, is_no_term, Args, stops_in_it, is_last, is_followed, is_one_too_many, is_followed_by_neither}
use Rattle.uc_clause.specs.Items.{equals, equals_alone}
use Rattle.uc_answer.specs.TermWords.{is_mark, node_tokens}

-- the tokens of these numbers
abbrev pub AreAt : List Token → List ℕ → List Token → Type 0
AreAt tokens [] ts = ts ≡ []
AreAt tokens (k ∷ ks) [] = ⊥
AreAt tokens (k ∷ ks) (t ∷ ts) = (slice_get tokens k ≡ Some t) × AreAt tokens ks ts

are_both : (tokens : List Token) (ks ls : List ℕ) (ts us : List Token) → AreAt tokens ks ts → AreAt tokens ls us → AreAt tokens (ks ++ ls) (ts ++ us)
are_both tokens [] ls ts us h k = subst (λ vs. AreAt tokens ls (vs ++ us)) (sym h) k
are_both tokens (x ∷ ks) ls [] us h k = absurd h
are_both tokens (x ∷ ks) ls (t ∷ ts) us h k = (h.0, are_both tokens ks ls ts us h.1 k)

pub one_at : (tokens : List Token) (ks : List ℕ) (ts rest : List Token) (i k : ℕ) → AreAt tokens ks ts → slice_get ks i ≡ Some k → (t : Token) × (slice_get tokens k ≡ Some t) × (slice_get (ts ++ rest) i ≡ Some t)
one_at tokens [] ts rest i k h e = absurd cc
one_at tokens (x ∷ ks) [] rest i k h e = absurd h
one_at tokens (x ∷ ks) (t ∷ ts) rest zero k h e = let same : x ≡ k = cc in (t, subst (λ n. slice_get tokens n ≡ Some t) same h.0, refl)
one_at tokens (x ∷ ks) (t ∷ ts) rest (suc i) k h e = one_at tokens ks ts rest i k h.1 e

drop_next : (tokens : List Token) (at : ℕ) (t : Token) → slice_get tokens at ≡ Some t → drop at tokens ≡ t ∷ drop (suc at) tokens
drop_next [] at t e = absurd cc
drop_next (x ∷ xs) zero t e = let same : x ≡ t = cc in ap (λ y. y ∷ xs) same
drop_next (x ∷ xs) (suc at) t e = drop_next xs at t e

drop_some : (tokens : List Token) (at : ℕ) (t : Token) → slice_get tokens at ≡ Some t → drop at tokens ≡ t ∷ drop (at + 1) tokens
drop_some tokens at t e = let next : suc at ≡ at + 1 = omega arith in subst (λ n. drop at tokens ≡ t ∷ drop n tokens) next (drop_next tokens at t e)

-- what stands between the nodes
abbrev is_between : Terminal → Bool
is_between Open = true
is_between Close = true
is_between Comma = true
is_between Equal = true
is_between other = false

between_is_mark : (k : Kind) (b : ℕ) (m : Terminal) → terminal_of_kind k b ≡ m → is_between m ≡ true → is_mark k ≡ true
between_is_mark kind.Mark b m e h = refl
between_is_mark kind.Lower b m e h = absurd (let q : false ≡ true = ap is_between e ∙ h in cc)
between_is_mark kind.Upper b m e h = absurd (let q : false ≡ true = ap is_between e ∙ h in cc)
between_is_mark kind.Quoted b m e h = absurd (let q : false ≡ true = ap is_between e ∙ h in cc)
between_is_mark kind.Distinct b m e h = absurd (let q : false ≡ true = ap is_between e ∙ h in cc)
between_is_mark kind.Integer b m e h = absurd (let q : false ≡ true = ap is_between e ∙ h in cc)
between_is_mark kind.Dollar b m e h = absurd (let q : false ≡ true = ap is_between e ∙ h in cc)
between_is_mark kind.Unequal b m e h = absurd (let q : false ≡ true = ap is_between e ∙ h in cc)

heads : (a b c d e f g h i j : Bool) → head_of (if a then Open else (if b then Close else (if c then OpenSquare else (if d then CloseSquare else (if e then Comma else (if f then Dot else (if g then Equal else (if h then Bar else (if i then Tilde else (if j then Star else OtherMark)))))))))) ≡ Neither
heads true b c d e f g h i j = refl
heads false true c d e f g h i j = refl
heads false false true d e f g h i j = refl
heads false false false true e f g h i j = refl
heads false false false false true f g h i j = refl
heads false false false false false true g h i j = refl
heads false false false false false false true h i j = refl
heads false false false false false false false true i j = refl
heads false false false false false false false false true j = refl
heads false false false false false false false false false true = refl
heads false false false false false false false false false false = refl

no_head : (b : ℕ) → head_of (terminal_of_mark b) ≡ Neither
no_head b = heads (b == 40) (b == 41) (b == 91) (b == 93) (b == 44) (b == 46) (b == 61) (b == 124) (b == 126) (b == 42)

head_is_no_mark : (k : Kind) (b : ℕ) → (head_of (terminal_of_kind k b) ≡ Neither → ⊥) → is_mark k ≡ false
head_is_no_mark kind.Mark b n = absurd (n (no_head b))
head_is_no_mark kind.Lower b n = refl
head_is_no_mark kind.Upper b n = refl
head_is_no_mark kind.Quoted b n = refl
head_is_no_mark kind.Distinct b n = refl
head_is_no_mark kind.Integer b n = refl
head_is_no_mark kind.Dollar b n = refl
head_is_no_mark kind.Unequal b n = refl

not_variable : {h : Head} → h ≡ Variable → h ≡ Neither → ⊥
not_variable e q = absurd cc

not_functor : {h : Head} → h ≡ Functor → h ≡ Neither → ⊥
not_functor e q = absurd cc

module _ (bytes : List ℕ) (tokens : List Token) where
  abbrev nodes_from : ℕ → List Token
  nodes_from at = node_tokens (drop at tokens)

  token_or_not : (o : Option Token) → (o ≡ None) ⊎ ((t : Token) × (o ≡ Some t))
  token_or_not None = inl refl
  token_or_not (Some t) = inr (t, refl)

  kept : (t : Token) (ts : List Token) → is_mark t.kind ≡ false → node_tokens (t ∷ ts) ≡ t ∷ node_tokens ts
  kept t ts h = ap (λ b. cond (not b) (t ∷ node_tokens ts) (node_tokens ts)) h

  left_out : (t : Token) (ts : List Token) → is_mark t.kind ≡ true → node_tokens (t ∷ ts) ≡ node_tokens ts
  left_out t ts h = ap (λ b. cond (not b) (t ∷ node_tokens ts) (node_tokens ts)) h

  -- a token that begins a term
  one_node : (at : ℕ) → (head_at bytes tokens at ≡ Neither → ⊥) → (t : Token) × (slice_get tokens at ≡ Some t) × (nodes_from at ≡ t ∷ nodes_from (at + 1))
  one_node at n = go (token_or_not (slice_get tokens at))
    where
      go : (slice_get tokens at ≡ None) ⊎ ((t : Token) × (slice_get tokens at ≡ Some t)) → (t : Token) × (slice_get tokens at ≡ Some t) × (nodes_from at ≡ t ∷ nodes_from (at + 1))
      go (inl e) = absurd (n (ap (λ o. head_of (terminal_or_end bytes o)) e))
      go (inr p) =
          let mark = head_is_no_mark p.0.kind _ (λ e. n (ap (λ o. head_of (terminal_or_end bytes o)) p.1 ∙ e)) in
          (p.0, p.1, ap node_tokens (drop_some tokens at p.0 p.1) ∙ kept p.0 (drop (at + 1) tokens) mark)

  -- a token between terms
  no_node : (at : ℕ) (m : Terminal) → terminal_at bytes tokens at ≡ m → is_between m ≡ true → nodes_from at ≡ nodes_from (at + 1)
  no_node at m e h = go (token_or_not (slice_get tokens at))
    where
      go : (slice_get tokens at ≡ None) ⊎ ((t : Token) × (slice_get tokens at ≡ Some t)) → nodes_from at ≡ nodes_from (at + 1)
      go (inl q) = absurd (let r : false ≡ true = ap is_between (sym (ap (terminal_or_end bytes) q) ∙ e) ∙ h in cc)
      go (inr p) =
          let mark = between_is_mark p.0.kind _ m (sym (ap (terminal_or_end bytes) p.1) ∙ e) h in
          ap node_tokens (drop_some tokens at p.0 p.1) ∙ left_out p.0 (drop (at + 1) tokens) mark

  -- from this token on the nodes are those of these numbers, and then those from another token on
  abbrev HasNodes : List ℕ → ℕ → ℕ → Type 0
  HasNodes ks at end = (ts : List Token) × AreAt tokens ks ts × (nodes_from at ≡ ts ++ nodes_from end)

  one_has : (at : ℕ) → (head_at bytes tokens at ≡ Neither → ⊥) → HasNodes (at ∷ []) at (at + 1)
  one_has at n = let p = one_node at n in (p.0 ∷ [], (p.1, refl), p.2)

  both_have : (ks ls : List ℕ) (at middle end : ℕ) → HasNodes ks at middle → HasNodes ls middle end → HasNodes (ks ++ ls) at end
  both_have ks ls at middle end h k = (h.0 ++ k.0, are_both tokens ks ls h.0 k.0 h.1 k.1, h.2 ∙ ap (λ ts. h.0 ++ ts) k.2 ∙ sym (append_assoc h.0 k.0 (nodes_from end)))

  passed : (ks : List ℕ) (at middle end : ℕ) → nodes_from middle ≡ nodes_from end → HasNodes ks at middle → HasNodes ks at end
  passed ks at middle end e h = (h.0, h.1, h.2 ∙ ap (λ ts. h.0 ++ ts) e)

  begun : (ks : List ℕ) (at middle end : ℕ) → nodes_from at ≡ nodes_from middle → HasNodes ks middle end → HasNodes ks at end
  begun ks at middle end e h = (h.0, h.1, e ∙ h.2)

  abbrev TermHas : ℕ → Outcome Parse → Type 0
  TermHas at (read p end) = HasNodes (leaves p) at end
  TermHas at (stop why k) = Unit {0}

  abbrev ArgsHave : ℕ → Outcome Parses → Type 0
  ArgsHave at (read ps end) = HasNodes (leaves_all ps) at end
  ArgsHave at (stop why k) = Unit {0}

  applied_has : (at : ℕ) (o : Outcome Parses) → (head_at bytes tokens at ≡ Neither → ⊥) → terminal_at bytes tokens (at + 1) ≡ Open → ArgsHave (at + 2) o → TermHas at (mapped (applied at) o)
  applied_has at (read ps end) n e h = both_have (at ∷ []) (leaves_all ps) at (at + 1) end (one_has at n) (begun (leaves_all ps) (at + 1) (at + 2) end (let two : at + 1 + 1 ≡ at + 2 = omega arith in no_node (at + 1) Open e refl ∙ ap nodes_from two) h)
  applied_has at (stop why k) n e h = tt

  also_has : (p : Parse) (at end : ℕ) (o : Outcome Parses) → HasNodes (leaves p) at end → terminal_at bytes tokens end ≡ Comma → ArgsHave (end + 1) o → ArgsHave at (mapped (also p) o)
  also_has p at end (read ps last) h e k = both_have (leaves p) (leaves_all ps) at end last h (begun (leaves_all ps) end (end + 1) last (no_node end Comma e refl) k)
  also_has p at end (stop why k) h e r = tt

  mutual
    term_has : {used at : ℕ} {o : Outcome Parse} → Term bytes tokens used at o → TermHas at o
    term_has {at = at} (is_variable e m) = one_has at (not_variable e)
    term_has {at = at} (is_constant e m n) = one_has at (not_functor e)
    term_has {at = at} (is_applied {outcome = o} e m b h) = applied_has at o (not_functor e) b (args_have h)
    term_has (is_node_too_many n m) = tt
    term_has (is_no_term e) = tt

    args_have : {functor number used at : ℕ} {o : Outcome Parses} → Args bytes tokens functor number used at o → ArgsHave at o
    args_have (stops_in_it h) = tt
    args_have {at = at} (is_last {end = end} {p = p} h e) = subst (λ ks. HasNodes ks at (end + 1)) (sym (append-nil (leaves p))) (passed (leaves p) at end (end + 1) (no_node end Close e refl) (term_has h))
    args_have {at = at} (is_followed {end = end} {p = p} {outcome = o} h e m rest) = also_has p at end o (term_has h) e (args_have rest)
    args_have (is_one_too_many h e m) = tt
    args_have (is_followed_by_neither h n m) = tt

  -- the node of a number is the token that the parse has there
  pub node_at : {used end : ℕ} {p : Parse} (i k : ℕ) → Term bytes tokens used 0 (read p end) → slice_get (leaves p) i ≡ Some k → (t : Token) × (slice_get tokens k ≡ Some t) × (slice_get (node_tokens tokens) i ≡ Some t)
  node_at {end = end} {p = p} i k h e =
      let n = term_has h in
      let found = one_at tokens (leaves p) n.0 (nodes_from end) i k n.1 e in
      (found.0, found.1, ap (λ ts. slice_get ts i) n.2 ∙ found.2)

  equals_has : (s : Sides) (end : ℕ) → equals bytes tokens 0 (read s end) → HasNodes (leaves s.left ++ leaves s.right) 0 end
  equals_has s end (goes_on {middle = first} e0 (goes_on {v = left} {middle = sign} h (goes_on {middle = second} e1 (goes_on {v = right} {middle = last} k e2)))) =
      let begins : first ≡ 0 = cc in
      let left_is : left ≡ s.left = cc in
      let right_is : right ≡ s.right = cc in
      let ends : last ≡ end = cc in
      let whole : HasNodes (leaves left ++ leaves right) first last = both_have (leaves left) (leaves right) first sign last (term_has h) (begun (leaves right) sign second last (no_node sign Equal e1.0 refl ∙ ap nodes_from (sym e1.1)) (term_has k)) in
      let fitted : HasNodes (leaves left ++ leaves right) 0 end = subst (λ (n : ℕ). HasNodes (leaves left ++ leaves right) 0 n) ends (subst (λ (n : ℕ). HasNodes (leaves left ++ leaves right) n last) begins whole) in
      subst (λ (p : Parse). HasNodes (leaves s.left ++ leaves p) 0 end) right_is (subst (λ (p : Parse). HasNodes (leaves p ++ leaves right) 0 end) left_is fitted)

  -- and so it is of an equation that is the whole text
  pub side_node_at : {end : ℕ} {s : Sides} (i k : ℕ) → equals_alone bytes tokens 0 (read s end) → slice_get (leaves s.left ++ leaves s.right) i ≡ Some k → (t : Token) × (slice_get tokens k ≡ Some t) × (slice_get (node_tokens tokens) i ≡ Some t)
  side_node_at {s = s} i k (goes_on {v = q} {middle = middle} h (goes_on e0 e1)) e =
      let same : q ≡ s = cc in
      let n = equals_has s middle (subst (λ (x : Sides). equals bytes tokens 0 (read x middle)) same h) in
      let found = one_at tokens (leaves s.left ++ leaves s.right) n.0 (nodes_from middle) i k n.1 e in
      (found.0, found.1, ap (λ ts. slice_get ts i) n.2 ∙ found.2)
