-- The words of a line, sorted for clap.
use Rattle.std.specs.Prelude.{◌≡◌, ℕ, List, ◌++◌, map, drop, Option, Some, None, Result, Ok, Err, string_bytes}
use Rattle.uc_words.specs.declared.command.Verb.{Verb}
use Rattle.uc_words.specs.declared.command.WordsFault.{WordsFault}
use Rattle.uc_words.specs.declared.command.WordsFault.TheVariants.{Usage, NoMemory}
use Rattle.uc_words.specs.declared.form.Form.{Form}
use Rattle.uc_words.specs.declared.form.Form.TheVariants.{Plain, Ends, Flag, Takes, Has, Formless}
use Rattle.uc_words.specs.declared.line.Sorted.{Sorted}
use Rattle.uc_words.specs.declared.line.Expects.{Expects}
use Rattle.uc_words.specs.Table.{allows, is_flag}
use Rattle.uc_words.specs.Lines.{Line}
use Rattle.uc_words.specs.Application.{option_word, option_words}
use Rattle.std.specs.Prelude.{true, false}

-- the words of an option that the command has; a value that stands in its word begins at this place of it
abbrev pub IsFormOf : Verb → List ℕ → Form → Type 0
IsFormOf verb word Plain = Unit {0}
IsFormOf verb word Ends = Unit {0}
IsFormOf verb word (Flag k) = (allows verb k ≡ true) × (is_flag k ≡ true)
IsFormOf verb word (Takes k) = (allows verb k ≡ true) × (is_flag k ≡ false)
IsFormOf verb word (Has k at) = (allows verb k ≡ true) × (word ≡ option_word k (drop at word))
IsFormOf verb word Formless = Unit {0}

-- after the words that were sorted stand those of the items of a line
pub record Grows (old new : Sorted) (line : Line) : Type 0 where
  pub options : map string_bytes new.options.items ≡ map string_bytes old.options.items ++ option_words line.given
  pub positionals : map string_bytes new.positionals.items ≡ map string_bytes old.positionals.items ++ line.positionals

-- one word was taken: its items were sorted after the others, and what may come then is told; or the word has no
-- reading here, or memory is wanted
abbrev pub Turns : Sorted → Sorted → Option (Line × Expects) → Result Expects WordsFault → Type 0
Turns old new (Some t) (Ok next) = (next ≡ t.1) × Grows old new t.0
Turns old new (Some t) (Err fault) = fault ≡ NoMemory
Turns old new None (Ok next) = ⊥
Turns old new None (Err fault) = Unit {0}

-- the words of the items of a line after those that were sorted
abbrev pub sorted_words : Sorted → List (List ℕ) × List (List ℕ)
sorted_words sorted = (map string_bytes sorted.options.items, map string_bytes sorted.positionals.items)

abbrev pub behind : List (List ℕ) × List (List ℕ) → Option Line → Option (List (List ℕ) × List (List ℕ))
behind words None = None
behind words (Some line) = Some (words.0 ++ option_words line.given, words.1 ++ line.positionals)

-- a reader answers something that shows what the words stand for, `Usage` exactly where they have no reading, or that
-- memory is wanted
abbrev pub GivesAs : {X Y : Type 0} → (Y → X) → Option X → Result Y WordsFault → Type 0
GivesAs f reading (Ok y) = reading ≡ Some (f y)
GivesAs f reading (Err Usage) = reading ≡ None
GivesAs f reading (Err NoMemory) = Unit {0}
