use Rattle.std.proofs.Common.{◌≡◌, length, replicate, sym, subst, arith}
use Rattle.std.specs.Prelude.{Result, Ok, Err, IfOk}
use Rattle.std.proofs.lemmas.List.{length-replicate, get_or-replicate}
use Rattle.uc_machine.specs.declared.state.Numbers.{Numbers}
use Rattle.uc_rows.specs.Bounds.{IsSmall, AreSmall}
use Rattle.tests_machine.proofs.rows.numbers.Goals as goal

abbrev nothing : Numbers
nothing = record { drawn = 0; commits = 0; reclaims = 0 }

small_nothing : AreSmall (replicate 65 nothing)
small_nothing k d l =
    let many : length (replicate 65 nothing) ≡ 65 = length-replicate 65 nothing in
    let one : IsSmall nothing = record { drawn = omega arith; commits = omega arith; reclaims = omega arith } in
    subst IsSmall (sym (get_or-replicate 65 k nothing d (omega (arith, l, many)))) one

if_ok : {T E : Type 0} {P Q : T → Type 0} (r : Result T E) → ((x : T) → P x → Q x) → IfOk r P → IfOk r Q
if_ok (Ok x) f h = f x h
if_ok (Err e) f h = h

pub returns : goal.returns
returns c = if_ok c.no_numbers.result (λ v e. subst AreSmall (sym e) small_nothing) c.no_numbers.ensures
