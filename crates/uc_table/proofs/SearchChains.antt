-- The chains of entries that wait.
use Rattle.std.proofs.Common.{◌≡◌, ℕ, zero, suc, List, [], refl, ap, sym, ◌∙◌, arith}
use Rattle.std.specs.Prelude.{slice_get, Some, None}
use Rattle.std.proofs.Math.ListN.{replicate}
use Rattle.uc_table.specs.declared.search_waiting.Entry.{Entry}
use Rattle.uc_table.specs.SearchWaiting.{IsTop}

pub all_zero : (m c n : ℕ) (hs : List ℕ) → hs ≡ replicate m 0 → slice_get hs c ≡ Some n → n ≡ 0
all_zero m c n hs e g = at m c n (sym (ap (λ l. slice_get l c) e) ∙ g)
  where
    at : (m c n : ℕ) → slice_get (replicate m 0) c ≡ Some n → n ≡ 0
    at zero c n g = cc
    at (suc m) zero n g = cc
    at (suc m) (suc c) n g = at m c n g

pub top_of_none : (es : List Entry) (n c : ℕ) → es ≡ [] → n ≡ 0 → IsTop es n c
top_of_none es n c e z = record {
  within = omega arith;
  waits = λ i x f g. absurd (omega arith);
  last = λ i x f g h. (let k : slice_get es i ≡ None = rw e refl in absurd (none_some (sym k ∙ g)));
}
  where
    none_some : {x : Entry} → None ≡ Some x → ⊥
    none_some e = cc

pub no_entry : (es : List Entry) (i : ℕ) (x : Entry) → es ≡ [] → slice_get es i ≡ Some x → ⊥
no_entry es i x e g = let k : slice_get es i ≡ None = rw e refl in none_some (sym k ∙ g)
  where
    none_some : {x : Entry} → None ≡ Some x → ⊥
    none_some e = cc
