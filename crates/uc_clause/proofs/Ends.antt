-- Where a token stands, and where the text ends.
use Rattle.std.proofs.Common.{◌≡◌, ℕ, zero, suc, ◌<◌, List, [], ◌∷◌, length, refl, sym, ap, ◌∙◌, arith, Bool}
use Rattle.std.specs.Prelude.{◌≢◌, Some}
use Rattle.uc_clause.specs.declared.token.Token.{Token}
use Rattle.uc_clause.specs.declared.terminal.Terminal.{Terminal}
use Rattle.uc_clause.specs.declared.terminal.Terminal.TheVariants.{End}
use Rattle.uc_clause.specs.declared.grammar.head.Head.TheVariants.{Neither}
use Rattle.uc_clause.specs.Terminals.{terminal_at}
use Rattle.uc_clause.specs.Terms.{head_at, head_of}
use Rattle.uc_clause.specs.Items.{sign_of}

-- a token stands where the text doesn't end
pub some_token : (bytes : List ℕ) (tokens : List Token) (at : ℕ) → terminal_at bytes tokens at ≢ End → at < length tokens
some_token bytes [] at h = absurd (h refl)
some_token bytes (t ∷ tokens) zero h = omega arith
some_token bytes (t ∷ tokens) (suc at) h = omega (arith, some_token bytes tokens at h)

pub some_head : (bytes : List ℕ) (tokens : List Token) (at : ℕ) → head_at bytes tokens at ≢ Neither → at < length tokens
some_head bytes tokens at h = some_token bytes tokens at (λ e. h (ap head_of e))

pub some_other : (bytes : List ℕ) (tokens : List Token) (at : ℕ) (t : Terminal) → terminal_at bytes tokens at ≡ t → t ≢ End → at < length tokens
some_other bytes tokens at t e h = some_token bytes tokens at (λ f. h (sym e ∙ f))

pub some_sign : (bytes : List ℕ) (tokens : List Token) (at : ℕ) (b : Bool) → sign_of (terminal_at bytes tokens at) ≡ Some b → at < length tokens
some_sign bytes tokens at b e = some_token bytes tokens at (λ f. let bad : sign_of End ≡ Some b = ap sign_of (sym f) ∙ e in cc)
