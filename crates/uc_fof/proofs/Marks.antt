-- Where a token stands.
use Rattle.std.proofs.Common.{◌≡◌, ℕ, zero, suc, ◌<◌, List, [], ◌∷◌, length, refl, sym, ap, ◌∙◌, arith, Bool, true, false}
use Rattle.std.specs.Prelude.{◌≢◌, Some}
use Rattle.uc_clause.specs.declared.token.Token.{Token}
use Rattle.uc_clause.specs.declared.terminal.Terminal.{Terminal}
use Rattle.uc_clause.specs.declared.terminal.Terminal.TheVariants.{Tilde, Equal, Unequal, End}
use Rattle.uc_clause.specs.Terminals.{terminal_at, bytes_at}
use Rattle.uc_clause.proofs.Ends.{some_token}
use Rattle.uc_fof.specs.Formulas.{is_mark, sign_by, denies}

pub some_mark : (bytes : List ℕ) (tokens : List Token) (mark at : ℕ) → is_mark bytes tokens mark at → at < length tokens
some_mark bytes [] mark at e = absurd (cc)
some_mark bytes (t ∷ tokens) mark zero e = omega arith
some_mark bytes (t ∷ tokens) mark (suc at) e = omega (arith, some_mark bytes tokens mark at e)

end_no_sign : (conjecture b : Bool) → sign_by conjecture End ≡ Some b → ⊥
end_no_sign true b e = cc
end_no_sign false b e = cc

pub some_sign : (bytes : List ℕ) (tokens : List Token) (conjecture : Bool) (at : ℕ) (b : Bool) → sign_by conjecture (terminal_at bytes tokens at) ≡ Some b → at < length tokens
some_sign bytes tokens conjecture at b e = some_token bytes tokens at (λ f. end_no_sign conjecture b (ap (sign_by conjecture) (sym f) ∙ e))

end_no_denial : (conjecture : Bool) → denies conjecture End ≡ true → ⊥
end_no_denial true e = cc
end_no_denial false e = cc

pub some_denial : (bytes : List ℕ) (tokens : List Token) (conjecture : Bool) (at : ℕ) → denies conjecture (terminal_at bytes tokens at) ≡ true → at < length tokens
some_denial bytes tokens conjecture at e = some_token bytes tokens at (λ f. end_no_denial conjecture (ap (denies conjecture) (sym f) ∙ e))

denial_tilde : (conjecture : Bool) (t : Terminal) → denies conjecture t ≡ true → t ≡ Tilde
denial_tilde false Tilde e = refl
denial_tilde conjecture t e = absurd (cc)

-- a denial begins with `~`
pub tilde_there : (bytes : List ℕ) (tokens : List Token) (conjecture : Bool) (at : ℕ) → denies conjecture (terminal_at bytes tokens at) ≡ true → terminal_at bytes tokens at ≡ Tilde
tilde_there bytes tokens conjecture at e = denial_tilde conjecture (terminal_at bytes tokens at) e
