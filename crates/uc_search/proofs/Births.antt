-- The facts that are born in a front, entry by entry.
use Rattle.std.proofs.Common.{◌≡◌, ℕ, zero, suc, ◌+◌, ◌≤◌, List, [], ◌∷◌, ◌++◌, length, take, Some, slice_get, ap, sym, ◌∙◌, arith, take_all}
use Rattle.uc_fact.specs.declared.fact.Fact.{Fact}
use Rattle.uc_shelf.specs.declared.entry.Entry.{Entry}
use Rattle.uc_shelf.specs.Entries.{born}
use Rattle.uc_machine.proofs.Blocks.{born-append}

-- the entries up to a number and the next one
next_entries : (es : List Entry) (k : ℕ) (e : Entry) → Some e ≡ slice_get es k → take (k + 1) es ≡ take k es ++ e ∷ []
next_entries [] k e h = absurd cc
next_entries (x ∷ es) zero e h = let same : e ≡ x = cc in ap (λ z. z ∷ []) (sym same)
next_entries (x ∷ es) (suc k) e h = let s : suc k + 1 ≡ suc (k + 1) = omega arith in rw s (ap (λ l. x ∷ l) (next_entries es k e h))

pub born_next : (es : List Entry) (k : ℕ) (e : Entry) (old new : List Fact) → Some e ≡ slice_get es k → new ≡ old ++ born (e ∷ []) → old ≡ born (take k es) → new ≡ born (take (k + 1) es)
born_next es k e old new at is inv =
    is ∙ ap (λ fs. fs ++ born (e ∷ [])) inv ∙ sym (born-append (take k es) (e ∷ [])) ∙ ap born (sym (next_entries es k e at))

pub born_all : (es : List Entry) (k : ℕ) (fs : List Fact) → length es ≤ k → fs ≡ born (take k es) → fs ≡ born es
born_all es k fs l inv = inv ∙ ap born (take_all k es l)
