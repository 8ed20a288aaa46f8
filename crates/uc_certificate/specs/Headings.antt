-- The lines of a certificate that begin with `%`:
--
--   % certificate 1
--   % derivation
--   % facts NAME NAME ..
--   % joins
--   % end
--
-- A last line without its line feed is a line, and departs. A number in place of the first one's 1 is of another version.
use Rattle.std.specs.Prelude.{◌≡◌, ◌≢◌, ℕ, ◌+◌, ◌<◌, ◌≤◌, ◌==◌, ◌&&◌, ◌||◌, not, nat_eq, bytes_eq, position, slice_get, Bool, true, false, List, [], ◌∷◌, ◌++◌, length, take, drop, codes, map, Option, Some, None, if◌then◌else◌}
use Rattle.std.specs.List.{starts_with, prefix_len, flat_map, AllByRecursion, list_all, list_any}
use Rattle.std.specs.Str.Parse.{digits_value}
use Rattle.uc_clause.specs.Bytes.{in_line, is_digits, is_name}
use Rattle.uc_clause.specs.Tokens.{place_of}
use Rattle.uc_system.specs.Lines.{Cut, first_line}
use Rattle.uc_certificate.specs.declared.fault.CertFault.{CertFault}
use Rattle.uc_certificate.specs.declared.fault.CertFault.TheVariants.{Syntax, Version, UnknownName}
use Rattle.uc_certificate.specs.declared.border.Border.{Border}
use Rattle.uc_certificate.specs.declared.border.Border.TheVariants.{Start, Facts, End}
use Rattle.uc_certificate.specs.Parts.{Outcome, gets, fails, Rule}

abbrev pub certificate_words : List ℕ
certificate_words = codes "% certificate "

abbrev pub certificate_line : List ℕ
certificate_line = codes "% certificate 1"

abbrev pub derivation_line : List ℕ
derivation_line = codes "% derivation"

abbrev pub facts_words : List ℕ
facts_words = codes "% facts"

abbrev pub joins_line : List ℕ
joins_line = codes "% joins"

abbrev pub end_line : List ℕ
end_line = codes "% end"

-- names, each behind a space
abbrev pub spaced : List (List ℕ) → List ℕ
spaced names = flat_map (λ name. 32 ∷ name) names

-- the facts' line
abbrev pub facts_line : List (List ℕ) → List ℕ
facts_line names = facts_words ++ spaced names

-- a line that ends a part of the text: one that begins as the first one does, one that names facts, or the last one
abbrev pub is_border : Border → List ℕ → Bool
is_border Start line = starts_with nat_eq line certificate_words
is_border Facts line = bytes_eq line facts_words || starts_with nat_eq line (codes "% facts ")
is_border End line = bytes_eq line end_line

-- the line in front of a derivation
abbrev pub is_derivation : List ℕ → Bool
is_derivation line = bytes_eq line derivation_line

-- digits of another number than 1
abbrev pub is_other_version : List ℕ → Bool
is_other_version ds = is_digits ds && not (digits_value 10 ds == 1)

-- words that are names of lines: each begins with a lower-case letter, and has letters, digits and `_` behind it
abbrev pub AreNames : List (List ℕ) → Type 0
AreNames words = AllByRecursion (λ word. is_name word ≡ true) words

-- the first of these words that is none of the names, by its number
abbrev pub first_unknown : List (List ℕ) → List (List ℕ) → Option ℕ
first_unknown names words = position (λ word. not (list_any (bytes_eq word) names)) words

-- the words are the names of the lines of these numbers
pub data AreNumbered (names : List (List ℕ)) : List (List ℕ) → List ℕ → Type 0 where
  none_numbered : AreNumbered names [] []
  one_numbered : {word : List ℕ} {words : List (List ℕ)} {number : ℕ} {numbers : List ℕ} → slice_get names number ≡ Some word → AreNumbered names words numbers → AreNumbered names (word ∷ words) (number ∷ numbers)

-- whole lines, none of which passes the test
pub data HasNoLine (test : List ℕ → Bool) : List ℕ → Type 0 where
  nothing_stands : HasNoLine test []
  other_stands : {line rest : List ℕ} → list_all in_line line ≡ true → test line ≡ false → HasNoLine test rest → HasNoLine test (line ++ 10 ∷ rest)

module _ (text : List ℕ) where
  -- the line that begins at a byte, whether a line feed ends it or the text
  abbrev pub line_from : ℕ → List ℕ
  line_from at = take (prefix_len in_line (drop at text)) (drop at text)

  -- the byte behind it and its line feed
  abbrev pub behind_line : ℕ → List ℕ → ℕ
  behind_line at line = at + length line + 1

  -- the line that begins there, or the end of the text, isn't called for
  abbrev pub departs : ℕ → CertFault
  departs at = Syntax (place_of text at)

  -- from a byte on, the first byte of the first line that passes the test, or the end of the text
  pub data FirstLine (test : List ℕ → Bool) : ℕ → ℕ → Type 0 where
    no_line : {at : ℕ} → length text ≤ at → FirstLine test at (length text)
    this_line : {at : ℕ} → at < length text → test (line_from at) ≡ true → FirstLine test at at
    later_line : {at to : ℕ} → at < length text → test (line_from at) ≡ false → FirstLine test (behind_line at (line_from at)) to → FirstLine test at to

  -- what the next line comes to by its value; where there is no whole line, the text departs
  abbrev pub picked : {V : Type 0} → (ℕ → List ℕ → Outcome V) → ℕ → Option Cut → Outcome V
  picked value at None = fails (departs at)
  picked value at (Some c) = value at c.line

  abbrev pub pick : {V : Type 0} → (ℕ → List ℕ → Outcome V) → Rule V
  pick value at outcome = outcome ≡ picked value at (first_line (drop at text))

  -- what the first line comes to
  abbrev pub version_by : ℕ → List ℕ → Outcome (Unit {0})
  version_by at line =
      if bytes_eq line certificate_line then gets tt (behind_line at line)
      else (if starts_with nat_eq line certificate_words && is_other_version (drop (length certificate_words) line) then fails (Version (place_of text (at + length certificate_words))) else fails (departs at))

  -- what stands in front of the first line that begins as a certificate does is skipped
  pub data HeadingAt (at : ℕ) (outcome : Outcome (Unit {0})) : Type 0 where
    heading_at : {start : ℕ} → FirstLine (is_border Start) at start → pick version_by start outcome → HeadingAt at outcome

  abbrev pub heading : Rule (Unit {0})
  heading at outcome = HeadingAt at outcome

  -- exactly this line
  abbrev pub this_by : List ℕ → ℕ → List ℕ → Outcome (Unit {0})
  this_by wanted at line = if bytes_eq line wanted then gets tt (behind_line at line) else fails (departs at)

  abbrev pub the_line : List ℕ → Rule (Unit {0})
  the_line wanted = pick (this_by wanted)

  -- where the word of this number begins in a facts' line
  abbrev pub word_start : ℕ → List (List ℕ) → ℕ → ℕ
  word_start at words k = at + length (facts_line (take k words)) + 1

  -- The facts' line, with so many words, each the name of a line: the numbers of those lines, among lines of these names. A
  -- line that is none departs, and the first word that names no line is unknown.
  pub data FactsAt (names : List (List ℕ)) (count at : ℕ) : Outcome (List ℕ) → Type 0 where
    no_facts : ((rest : List ℕ) (words : List (List ℕ)) → first_line (drop at text) ≡ Some (record { line = facts_line words; rest = rest }) → AreNames words → length words ≡ count → ⊥) → FactsAt names count at (fails (departs at))
    unknown_fact : {rest : List ℕ} (words : List (List ℕ)) {k : ℕ} → first_line (drop at text) ≡ Some (record { line = facts_line words; rest = rest }) → AreNames words → length words ≡ count → first_unknown names words ≡ Some k → FactsAt names count at (fails (UnknownName (place_of text (word_start at words k))))
    are_facts : {rest : List ℕ} (words : List (List ℕ)) {numbers : List ℕ} → first_line (drop at text) ≡ Some (record { line = facts_line words; rest = rest }) → AreNames words → length words ≡ count → AreNumbered names words numbers → FactsAt names count at (gets numbers (behind_line at (facts_line words)))

  abbrev pub facts : List (List ℕ) → ℕ → Rule (List ℕ)
  facts names count at outcome = FactsAt names count at outcome
