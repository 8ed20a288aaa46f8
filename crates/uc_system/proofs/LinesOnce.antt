-- A rule comes to one thing from a line on.
use Rattle.std.proofs.Common.{◌≡◌, ℕ, List, refl, sym, ◌∙◌}
use Rattle.std.specs.Prelude.{Option}
use Rattle.uc_system.specs.declared.fault.SystemFault.{SystemFault}
use Rattle.uc_system.specs.Lines.{Outcome, gets, fails, Rule, Then, goes_on, fails_first, gives, here, unless, pick}

abbrev pub Once : {V : Type 0} → Rule V → Type 0
Once {V} rule = (n : ℕ) (text : List ℕ) (o p : Outcome V) → rule n text o → rule n text p → o ≡ p

-- the second rule has to be so only for values that the first one gets
pub both_once : {V W : Type 0} (first : Rule V) (next : V → Rule W) → Once first → ((v : V) (n m : ℕ) (text rest : List ℕ) → first n text (gets v m rest) → Once (next v)) → Once (Then first next)
both_once first next one two n text o p (goes_on {v = v} {m = m} {rest = r} x y) (goes_on {v = w} {m = k} {rest = q} s t) =
    let e = one n text (gets v m r) (gets w k q) x s in
    let values : w ≡ v = cc in
    let numbers : k ≡ m = cc in
    let rests : q ≡ r = cc in
    two v n m text r x m r o p y (rw rests at (rw numbers at (rw values at t)))
both_once first next one two n text o _ (goes_on {v = v} {m = m} {rest = r} x y) (fails_first {fault = f} s) = let e = one n text (gets v m r) (fails f) x s in absurd (cc)
both_once first next one two n text _ p (fails_first {fault = f} x) (goes_on {v = w} {m = k} {rest = q} s t) = let e = one n text (fails f) (gets w k q) x s in absurd (cc)
both_once first next one two n text _ _ (fails_first {fault = f} x) (fails_first {fault = g} s) =
    let e = one n text (fails f) (fails g) x s in
    let faults : f ≡ g = cc in
    rw faults refl

pub gives_once : {V : Type 0} (v : V) → Once (gives v)
gives_once v n text o p x y = x ∙ sym y

pub here_once : Once here
here_once n text o p x y = x ∙ sym y

pub unless_once : (fault : Option SystemFault) → Once (unless fault)
unless_once fault n text o p x y = x ∙ sym y

pub pick_once : {V : Type 0} (value : List ℕ → Option V) → Once (pick value)
pick_once value n text o p x y = x ∙ sym y
