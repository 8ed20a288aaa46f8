-- The two numbers of `gen`.
use Rattle.std.proofs.Common.{ℕ, ◌≡◌, ◌≤◌, ◌&&◌, nat_le, true, List, [], ◌∷◌, length, Option, Some, None, refl, sym, ◌∙◌, subst}
use Rattle.std.proofs.lemmas.Bool.{and_parts, leb-true}
use Rattle.uc_words.specs.declared.command.Command.{Command}
use Rattle.uc_words.specs.declared.command.Verb.{Verb}
use Rattle.uc_words.specs.declared.command.Verb.TheVariants as verb
use Rattle.uc_words.specs.Number.{number_of}
use Rattle.uc_words.specs.Table.{fits}
use Rattle.uc_words.specs.Lines.{is_once}
use Rattle.uc_words.specs.Reads.{is_within, numbers_fit, Reads}

-- a number within these limits
pub record IsNumberWithin (low high : ℕ) (o : Option ℕ) : Type 0 where
  pub value : ℕ
  pub is : o ≡ Some value
  pub least : low ≤ value
  pub most : value ≤ high

within : (low high : ℕ) (o : Option ℕ) → is_within low high o ≡ true → IsNumberWithin low high o
within low high None e = absurd cc
within low high (Some n) e = let p = and_parts (nat_le low n) (nat_le n high) e in record { value = n; is = refl; least = leb-true low n p.0; most = leb-true n high p.1 }

pub count_within : (count start : List ℕ) → numbers_fit verb.Gen (count ∷ start ∷ []) ≡ true → IsNumberWithin 1 2000 (number_of count)
count_within count start e = within 1 2000 (number_of count) (and_parts (is_within 1 2000 (number_of count)) (is_within 0 2147483647 (number_of start)) e).0

pub start_within : (count start : List ℕ) → numbers_fit verb.Gen (count ∷ start ∷ []) ≡ true → IsNumberWithin 0 2147483647 (number_of start)
start_within count start e = within 0 2147483647 (number_of start) (and_parts (is_within 1 2000 (number_of count)) (is_within 0 2147483647 (number_of start)) e).1

pub is_number : {low high : ℕ} {o : Option ℕ} → IsNumberWithin low high o → None ≡ o → ⊥
is_number w none = absurd (let bad : None ≡ Some w.value = none ∙ w.is in cc)

pub same_number : {low high : ℕ} {o : Option ℕ} (w : IsNumberWithin low high o) (n : ℕ) → Some n ≡ o → w.value ≡ n
same_number w n e = let one : Some n ≡ Some w.value = e ∙ w.is in cc

-- where the words read as `gen` its numbers fit
pub gen_numbers : (words : List (List ℕ)) (command : Command) → Reads words command → command.verb ≡ verb.Gen → (count start : List ℕ) → command.positionals ≡ count ∷ start ∷ [] → numbers_fit verb.Gen (count ∷ start ∷ []) ≡ true
gen_numbers words command r is_gen count start names =
    let line = r.said.1 in
    let fit = (and_parts (is_once line.given && fits r.said.0 (length line.positionals)) (numbers_fit r.said.0 line.positionals) r.is.fit).1 in
    let of_gen = subst (λ (v : Verb). numbers_fit v line.positionals ≡ true) (sym r.is.verb ∙ is_gen) fit in
    subst (λ (ws : List (List ℕ)). numbers_fit verb.Gen ws ≡ true) (sym r.is.positionals ∙ names) of_gen
