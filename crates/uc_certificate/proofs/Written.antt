-- Texts that are written piece by piece.
use Rattle.std.proofs.Common.{◌≡◌, ℕ, List, ◌++◌, append_assoc, refl}
use Rattle.std.specs.Prelude.{Result, Ok, Err, OnOk}

pub on_ok : {V E P Q : Type 0} (r : Result V E) → (P → Q) → OnOk r P → OnOk r Q
on_ok (Ok v) f h = f h
on_ok (Err e) f h = tt

pub line_first : (o l n s : List ℕ) → o ++ l ++ n ++ s ≡ o ++ (l ++ n ++ s)
line_first o l n s = simp append_assoc refl

pub lines_behind : (o d n p w m : List ℕ) → o ++ d ++ n ++ p ++ w ++ m ++ n ≡ o ++ (d ++ n ++ p ++ (w ++ m ++ n))
lines_behind o d n p w m = simp append_assoc refl

pub overlap_behind : (o c a k b p e : List ℕ) → o ++ c ++ a ++ k ++ b ++ k ++ p ++ e ≡ o ++ (c ++ a ++ k ++ b ++ k ++ p ++ e)
overlap_behind o c a k b p e = simp append_assoc refl
