-- What the calls of a queue do to its entries, as contracts see it.
use Rattle.std.proofs.Common.{◌≡◌, ℕ, ◌^◌, ◌≤◌, ◌<◌, List, [], ◌∷◌, ◌++◌, length, ◌==◌, Some, None, refl, ap, sym, ◌∙◌, inl, inr, subst, get_or}
use Rattle.std.specs.Prelude.{option_map}
use Rattle.std.specs.List.{slice_get}
use Rattle.std.proofs.lemmas.List.Sorted.{IsPermutation-to_front}
use Rattle.std.proofs.lemmas.Bool.{cases_Bool}
use Rattle.std.proofs.lemmas.Option.{slice_get_read}
use Rattle.uc_queue.specs.declared.entry.Entry.{Entry}
use Rattle.uc_queue.specs.declared.entry.Key.TheVariants.{Number, Weight}
use Rattle.uc_queue.specs.Queue.{Queue, next, least, IsNew, with_entry, by_number}
use Rattle.uc_queue.specs.Trees.{before, key_of, IsRight, AreRight}
use Rattle.uc_queue.proofs.Members.{IsDistinct, resorted, new_any_order, pushed_distinct}

next_by_key : (q : Queue) → next q ≡ least (before (key_of q.draws)) q.waiting
next_by_key q = elim (cases_Bool (q.draws == 4)) [ inl b ↦ rw b refl | inr b ↦ rw b refl ]

-- the entry at a place of a list that was lent
pub lent_at : (es rs : List Entry) (i : ℕ) (e : Entry) → rs ≡ es → i < length rs → e ≡ get_or es i e → slice_get es i ≡ Some e
lent_at es rs i e same h v = slice_get_read es (length es) i e refl (subst (λ xs. i < length xs) same h) v

-- the least entry's number is what the next draw names
pub named : (q : Queue) (es rs : List Entry) (slot : ℕ) (e : Entry) → q.waiting ≡ by_number es → rs ≡ es → slice_get rs slot ≡ least (before (key_of q.draws)) (by_number rs) → slice_get es slot ≡ Some e → Some e.number ≡ option_map (λ e. e.number) (next q)
named q es rs slot e w same f got =
    let l : slice_get es slot ≡ least (before (key_of q.draws)) (by_number es) = subst (λ xs. slice_get xs slot ≡ least (before (key_of q.draws)) (by_number xs)) same f in
    let h : next q ≡ Some e = next_by_key q ∙ (ap (λ xs. least (before (key_of q.draws)) xs) w ∙ (sym l ∙ got)) in
    rw h refl

pub pushed : (es : List Entry) (e : Entry) → IsDistinct es → IsNew e.number (by_number es) → by_number (es ++ e ∷ []) ≡ with_entry e (by_number es)
pushed es e d new = resorted (es ++ e ∷ []) (e ∷ es) (IsPermutation-to_front es e) (pushed_distinct es e d (new_any_order e.number es new))

pub none_waits : (q : Queue) → q.waiting ≡ [] → option_map (λ (e : Entry). e.number) (next q) ≡ None
none_waits q w = rw (next_by_key q, w) refl

pub right_again : (es fs : List Entry) (ls ms rs ns : List ℕ) → AreRight es ls rs → fs ≡ es → ms ≡ ls → ns ≡ rs → AreRight fs ms ns
right_again es fs ls ms rs ns r e l m = rw (e, l, m) r

pub both_right : (es xs ys : List Entry) (ls ms rs ns : List ℕ) → xs ≡ es → ys ≡ es → ls ≡ ms → rs ≡ ns → length ms ≤ 2 ^ 31 → length ns ≡ length ms → length es ≤ length ms → IsRight Weight xs ms → IsRight Number ys ns → AreRight es ls rs
both_right es xs ys ls ms rs ns x y l r few same within w n = rw (l, r) (record { few = few; same = same; within = within; by_weight = subst (λ zs. IsRight Weight zs ms) x w; by_number = subst (λ zs. IsRight Number zs ns) y n })
