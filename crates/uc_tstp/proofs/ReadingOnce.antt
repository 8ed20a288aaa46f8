-- A text reads in one way.
use Rattle.std.proofs.Common.{◌≡◌, ℕ, List, [], Option, Result, Ok, Err, refl, sym, ap, ◌∙◌, subst}
use Rattle.uc_term.specs.Table.{Table, IsDistinct}
use Rattle.uc_clause.specs.declared.token.Token.{Token}
use Rattle.uc_clause.specs.Tokens.{Cut}
use Rattle.uc_clause.specs.Rules.{Outcome, read}
use Rattle.uc_clause.proofs.Once.{cut_once}
use Rattle.uc_check.specs.declared.proof.Proof.{Proof}
use Rattle.uc_check.specs.declared.proof.Line.{Line}
use Rattle.uc_tstp.specs.declared.fault.ProofFault.{ProofFault}
use Rattle.uc_tstp.specs.declared.framing.Frame.{Frame}
use Rattle.uc_tstp.specs.declared.scope.Scope.{Scope}
use Rattle.uc_tstp.specs.declared.scope.Scope.TheVariants as scope
use Rattle.uc_tstp.specs.Framing.{Framed}
use Rattle.uc_tstp.specs.Parse as parse
use Rattle.uc_tstp.specs.Lines.{LinesAt}
use Rattle.uc_tstp.specs.Meaning.{names_of, MeanLines}
use Rattle.uc_tstp.specs.Reading.{inside, first_unknown, ReadsInside, no_token, no_lines, no_name, reads, ReadsProof, no_frame, in_frame}
use Rattle.uc_tstp.proofs.FramedOnce.{framed_once}
use Rattle.uc_tstp.proofs.LinesOnce.{lines_once}
use Rattle.uc_tstp.proofs.NamesOnce.{names_different}
use Rattle.uc_tstp.proofs.MeantOnce.{lines_are_once}
use Rattle.uc_tstp.proofs.Outcomes.{some_once, some_or_none, err_once, ok_once, ok_or_err, same_value, same_stop, read_or_stop}

-- the part of a text in one frame
module _ (which : Scope) (text : List ℕ) (frame : Frame) where
  -- what its lines with these tokens come to
  abbrev LinesOf : List Token → Outcome (List parse.Line) → Type 0
  LinesOf tokens o = LinesAt (inside text frame) tokens which [] 0 o

  abbrev unknown : List Token → List parse.Line → Option ℕ
  unknown tokens lines = first_unknown (inside text frame) tokens (names_of (inside text frame) tokens lines) (parse.all_mentions lines)

  -- it has one cut, and lines that come to one thing
  pub all_once : {ts us : List Token} {o p : Outcome (List parse.Line)} → Cut (inside text frame) 0 (Ok ts) → Cut (inside text frame) 0 (Ok us) → LinesOf ts o → LinesOf us p → (ts ≡ us) × (o ≡ p)
  all_once {ts} {us} {o} {p} c d l m =
      let tokens : us ≡ ts = ok_once (cut_once d c) in
      (sym tokens, lines_once (inside text frame) ts which l (subst (λ vs. LinesOf vs p) tokens m))

  unknown_once : {ts us : List Token} {ls js : List parse.Line} {e d : ℕ} → (ts ≡ us) × Path (Outcome (List parse.Line)) (read ls e) (read js d) → unknown ts ls ≡ unknown us js
  unknown_once {ts} {us} {ls} {js} same =
      let tokens : ts ≡ us = same.0 in
      let lines : ls ≡ js = same_value same.1 in
      rw (tokens, lines) refl

  module _ (table : Table) (distinct : IsDistinct table) where
    abbrev SaysLines : List Token → List parse.Line → List Line → Type 0
    SaysLines tokens parsed lines = MeanLines (inside text frame) tokens table (names_of (inside text frame) tokens parsed) parsed lines

    proof_once : {ts us : List Token} {ls js : List parse.Line} {e d : ℕ} (a b : Proof) → LinesOf ts (read ls e) → (ts ≡ us) × Path (Outcome (List parse.Line)) (read ls e) (read js d) → SaysLines ts ls a.lines → SaysLines us js b.lines → a ≡ b
    proof_once {ts} {us} {ls} {js} a b l same m n =
        let moved : SaysLines ts ls b.lines = subst (λ v. SaysLines ts v b.lines) (sym (same_value same.1)) (subst (λ v. SaysLines v js b.lines) (sym same.0) n) in
        let lines : a.lines ≡ b.lines = lines_are_once (inside text frame) ts (names_of (inside text frame) ts ls) (names_different (inside text frame) ts which l) table distinct m moved in
        ap (λ (ls : List Line). let p : Proof = record { lines = ls } in p) lines

    pub inside_once : {a b : Result Proof ProofFault} → ReadsInside which table text frame a → ReadsInside which table text frame b → a ≡ b
    inside_once (no_token {k = k} c) (no_token {k = j} d) = let ks : k ≡ j = err_once (cut_once c d) in rw ks refl
    inside_once (no_token c) (no_lines d m) = absurd (ok_or_err (cut_once d c))
    inside_once (no_token c) (no_name d m u) = absurd (ok_or_err (cut_once d c))
    inside_once (no_token c) (reads d m u s) = absurd (ok_or_err (cut_once d c))
    inside_once (no_lines c l) (no_token d) = absurd (ok_or_err (cut_once c d))
    inside_once (no_lines {tokens = ts} {why = why} {k = k} c l) (no_lines {tokens = us} {why = other} {k = j} d m) =
        let same = all_once c d l m in
        let tokens : ts ≡ us = same.0 in
        let stops = same_stop same.1 in
        let whys : why ≡ other = stops.0 in
        let ks : k ≡ j = stops.1 in
        rw (tokens, whys, ks) refl
    inside_once (no_lines c l) (no_name d m u) = absurd (read_or_stop (all_once d c m l).1)
    inside_once (no_lines c l) (reads d m u s) = absurd (read_or_stop (all_once d c m l).1)
    inside_once (no_name c l v) (no_token d) = absurd (ok_or_err (cut_once c d))
    inside_once (no_name c l v) (no_lines d m) = absurd (read_or_stop (all_once c d l m).1)
    inside_once (no_name {tokens = ts} {k = k} c l v) (no_name {tokens = us} {k = j} d m u) =
        let same = all_once c d l m in
        let tokens : ts ≡ us = same.0 in
        let ks : k ≡ j = some_once v (unknown_once same ∙ u) in
        rw (tokens, ks) refl
    inside_once (no_name c l v) (reads d m u s) = absurd (some_or_none v (unknown_once (all_once c d l m) ∙ u))
    inside_once (reads c l v r) (no_token d) = absurd (ok_or_err (cut_once c d))
    inside_once (reads c l v r) (no_lines d m) = absurd (read_or_stop (all_once c d l m).1)
    inside_once (reads c l v r) (no_name d m u) = absurd (some_or_none u (unknown_once (all_once d c m l) ∙ v))
    inside_once (reads {proof = a} c l v r) (reads {proof = b} d m u s) = ap Ok (proof_once a b l (all_once c d l m) r s)

-- a whole text
module _ (text : List ℕ) (table : Table) (distinct : IsDistinct table) where
  framed_or_not : {f : Frame} {why : ProofFault} → Framed text (Ok f) → Framed text (Err why) → ⊥
  framed_or_not x y = ok_or_err (framed_once text x y)

  pub reading_once : {a b : Result Proof ProofFault} → ReadsProof table text a → ReadsProof table text b → a ≡ b
  reading_once (no_frame x) (no_frame y) = ap Err (err_once (framed_once text x y))
  reading_once (no_frame x) (in_frame y d) = absurd (framed_or_not y x)
  reading_once (in_frame x c) (no_frame y) = absurd (framed_or_not x y)
  reading_once (in_frame {frame = f} x c) (in_frame {answer = b} y d) = inside_once scope.Proof text f table distinct c (subst (λ h. ReadsInside scope.Proof table text h b) (ok_once (framed_once text y x)) d)
