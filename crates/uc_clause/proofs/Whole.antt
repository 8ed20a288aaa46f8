-- A whole text reads as one thing, or is refused for one reason.
use Rattle.std.proofs.Common.{◌≡◌, ℕ, List, refl, sym, ap, ◌∙◌, subst, inl, inr}
use Rattle.std.specs.Prelude.{Result, Ok, Err}
use Rattle.uc_clause.specs.declared.token.Token.{Token}
use Rattle.uc_clause.specs.declared.token.Place.{Place}
use Rattle.uc_clause.specs.declared.fault.ClauseFault.{ClauseFault}
use Rattle.uc_clause.specs.declared.fault.ClauseFault.TheVariants as fault
use Rattle.uc_clause.specs.declared.fault.TokenFault.{TokenFault}
use Rattle.uc_clause.specs.declared.fault.TokenFault.TheVariants as token
use Rattle.uc_clause.specs.declared.grammar.stop.Stop.{Stop}
use Rattle.uc_clause.specs.declared.grammar.stop.Stop.TheVariants.{At, NoMemory}
use Rattle.uc_clause.specs.Faults.{clause_fault}
use Rattle.uc_clause.specs.Tokens.{AreTokens, StopsAt, IsRefused, place_of}
use Rattle.uc_clause.specs.Rules.{Rule, read, stop, Stops}
use Rattle.uc_clause.specs.Refusals.{IsFaultOf}
use Rattle.uc_clause.specs.Reading.{ReadsBy, Refuses, isnt_tokens, isnt_read, IsUnlessMemory, IsFault, IsAnswer}
use Rattle.uc_clause.proofs.Once.{cut_once}
use Rattle.uc_clause.proofs.ReadOnce.{Once}

tokens_once : (bytes : List ℕ) (ts us : List Token) → AreTokens bytes ts → AreTokens bytes us → ts ≡ us
tokens_once bytes ts us a b = let e : (let r : Result (List Token) ℕ = Ok ts in r) ≡ Ok us = cut_once a b in cc

tokens_or_not : (bytes : List ℕ) (ts : List Token) (place : Place) → AreTokens bytes ts → StopsAt bytes place → ⊥
tokens_or_not bytes ts place a s = let e : Ok ts ≡ Err s.0 = cut_once a s.1 in cc

places_once : (bytes : List ℕ) (p q : Place) → StopsAt bytes p → StopsAt bytes q → p ≡ q
places_once bytes p q a b =
    let e : (let r : Result (List Token) ℕ = Err a.0 in r) ≡ Err b.0 = cut_once a.1 b.1 in
    let same : a.0 ≡ b.0 = cc in
    a.2 ∙ ap (place_of bytes) same ∙ sym b.2

module _ {V P : Type 0} (rule : List ℕ → List Token → Rule P) (says : List ℕ → List Token → P → V → Type 0) (bytes : List ℕ) (once : (tokens : List Token) → Once (rule bytes tokens)) where
  -- what reads isn't refused
  pub reads_or_not : (v : V) (e : ClauseFault) → ReadsBy rule says bytes v → Refuses rule bytes e → ⊥
  reads_or_not v _ r (isnt_tokens {place = place} s) = tokens_or_not bytes r.tokens place r.are_tokens s
  reads_or_not v _ r (isnt_read {tokens = ts} {why = why} {k = k} are stops) =
      let same : ts ≡ r.tokens = tokens_once bytes ts r.tokens are r.are_tokens in
      let e : read r.parse r.end ≡ stop why k = once r.tokens 0 (read r.parse r.end) (stop why k) r.reads (subst (λ us. rule bytes us 0 (stop why k)) same stops) in
      cc

  pub refused_once : (e f : ClauseFault) → Refuses rule bytes e → Refuses rule bytes f → e ≡ f
  refused_once _ _ (isnt_tokens {place = p} a) (isnt_tokens {place = q} b) = ap fault.Syntax (places_once bytes p q a b)
  refused_once _ _ (isnt_tokens {place = p} a) (isnt_read {tokens = ts} are stops) = absurd (tokens_or_not bytes ts p are a)
  refused_once _ _ (isnt_read {tokens = ts} are stops) (isnt_tokens {place = p} a) = absurd (tokens_or_not bytes ts p are a)
  refused_once _ _ (isnt_read {tokens = ts} {why = why} {k = k} are stops) (isnt_read {tokens = us} {why = other} {k = l} ares others) =
      let same : us ≡ ts = tokens_once bytes us ts ares are in
      let e : stop why k ≡ stop other l = once ts 0 (stop why k) (stop other l) stops (subst (λ vs. rule bytes vs 0 (stop other l)) same others) in
      let whys : why ≡ other = cc in
      let ks : k ≡ l = cc in
      rw (whys, ks, same) refl

  pub refuses : (r : Result V ClauseFault) → IsAnswer (ReadsBy rule says bytes) (Refuses rule bytes) r → (e : ClauseFault) → Refuses rule bytes e → IsUnlessMemory (Err e) r
  refuses (Ok w) answer e r = absurd (reads_or_not w e answer r)
  refuses (Err f) (inl other) e r = inl (ap Err (refused_once f e other r))
  refuses (Err f) (inr memory) e r = inr (ap Err memory)

  module _ (says_once : (tokens : List Token) (p : P) (v w : V) → says bytes tokens p v → says bytes tokens p w → v ≡ w) where
    pub read_once : (v w : V) → ReadsBy rule says bytes v → ReadsBy rule says bytes w → v ≡ w
    read_once v w r q =
        let same : q.tokens ≡ r.tokens = tokens_once bytes q.tokens r.tokens q.are_tokens r.are_tokens in
        let e : read r.parse r.end ≡ read q.parse q.end = once r.tokens 0 (read r.parse r.end) (read q.parse q.end) r.reads (subst (λ us. rule bytes us 0 (read q.parse q.end)) same q.reads) in
        let parses : q.parse ≡ r.parse = cc in
        says_once r.tokens r.parse v w r.means (subst (λ us. says bytes us r.parse w) same (subst (λ p. says bytes q.tokens p w) parses q.means))

    pub complete : (r : Result V ClauseFault) → IsAnswer (ReadsBy rule says bytes) (Refuses rule bytes) r → (v : V) → ReadsBy rule says bytes v → IsUnlessMemory (Ok v) r
    complete (Ok w) answer v r = inl (ap Ok (read_once w v answer r))
    complete (Err e) (inl refuses) v r = absurd (reads_or_not v e r refuses)
    complete (Err e) (inr memory) v r = inr (ap Err memory)

-- a text that isn't tokens is refused
pub refused_tokens : {P : Type 0} (rule : List ℕ → List Token → Rule P) (bytes : List ℕ) (f : TokenFault) → IsRefused bytes f → IsFault (Refuses rule bytes) (clause_fault f)
refused_tokens rule bytes (token.Syntax place) s = inl (isnt_tokens s)
refused_tokens rule bytes token.NoMemory s = inr refl

-- where the rule stops, the text is refused
pub refused_stop : {P : Type 0} (rule : List ℕ → List Token → Rule P) (bytes : List ℕ) (tokens : List Token) (s : Stop) (f : ClauseFault) → AreTokens bytes tokens → Stops (rule bytes tokens 0) s → IsFaultOf bytes tokens s f → IsFault (Refuses rule bytes) f
refused_stop rule bytes tokens (At why k) f are stops (inl e) = inl (subst (Refuses rule bytes) (sym e) (isnt_read are stops))
refused_stop rule bytes tokens (At why k) f are stops (inr e) = inr e
refused_stop rule bytes tokens NoMemory f are stops e = inr e
