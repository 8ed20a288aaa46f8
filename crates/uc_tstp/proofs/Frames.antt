-- The refusals of a text without a frame.
use Rattle.std.proofs.Common.{◌≡◌, ℕ, ◌+◌, List, take, false, Some, None, Err, sym, ap, ◌∙◌, subst}
use Rattle.std.proofs.Math.Seq.{take-length}
use Rattle.uc_clause.specs.declared.token.Place.{Place}
use Rattle.uc_clause.specs.Tokens.{place_behind}
use Rattle.uc_tstp.specs.declared.framing.Span.{Span}
use Rattle.uc_tstp.specs.declared.framing.Border.TheVariants.{Start, End}
use Rattle.uc_tstp.specs.declared.fault.ProofFault.TheVariants.{Syntax}
use Rattle.uc_tstp.specs.Framing.{is_border, FirstLine, Framed, no_start, other_name, is_same_name}

pub no_start_at : (text : List ℕ) (p : Place) → p ≡ place_behind text → FirstLine (is_border Start) text 0 None → Framed text (Err (Syntax p))
no_start_at text p e l = subst (λ q. Framed text (Err (Syntax q))) (ap place_behind (take-length text) ∙ sym e) (no_start l)

pub other_name_at : (text front : List ℕ) (p : Place) (start end : Span) → p ≡ place_behind front → front ≡ take end.first text → FirstLine (is_border Start) text 0 (Some start) → FirstLine (is_border End) text (start.feed + 1) (Some end) → is_same_name text start end ≡ false → Framed text (Err (Syntax p))
other_name_at text front p start end e f l m n = subst (λ q. Framed text (Err (Syntax q))) (ap place_behind (sym f) ∙ sym e) (other_name l m n)
