-- What a word is where an item may begin.
use Rattle.std.specs.Prelude.{ℕ, ◌+◌, ◌==◌, ◌&&◌, not, List, [], take, drop, slice_index, position, Option, Some, None, codes, bytes_eq, if◌then◌else◌}
use Rattle.uc_words.specs.declared.command.Verb.{Verb}
use Rattle.uc_words.specs.declared.table.Key.{Key}
use Rattle.uc_words.specs.declared.form.Form.{Form}
use Rattle.uc_words.specs.declared.form.Form.TheVariants.{Plain, Ends, Flag, Takes, Has, Formless}
use Rattle.uc_words.specs.Table.{allows, is_flag, key_named}

-- `--name`: a flag, or an option whose value is the next word
abbrev pub bare_form : Verb → Option Key → Form
bare_form verb None = Formless
bare_form verb (Some key) = if not (allows verb key) then Formless else if is_flag key then Flag key else Takes key

-- `--name=value`: an option with its value, which begins at this place of the word
abbrev pub given_form : Verb → Option Key → ℕ → Form
given_form verb None value = Formless
given_form verb (Some key) value = if allows verb key && not (is_flag key) then Has key value else Formless

-- a word that begins with two dashes, by what stands after them: the name ends at the first `=`
abbrev pub cut_form : Verb → List ℕ → Option ℕ → Form
cut_form verb name None = bare_form verb (key_named name)
cut_form verb name (Some end) = given_form verb (key_named (take end name)) (end + 3)

abbrev pub long_form : Verb → List ℕ → Form
long_form verb name = cut_form verb name (position (λ b. b == 61) name)

-- a word that is `-` or begins with no dash is a positional; after `--` all words are
abbrev pub form_of : Verb → List ℕ → Form
form_of verb word =
    if bytes_eq word [] then Formless
    else if bytes_eq word (codes "-") then Plain
    else if bytes_eq word (codes "--") then Ends
    else if bytes_eq (take 2 word) (codes "--") then long_form verb (drop 2 word)
    else if slice_index word 0 == 45 then Formless
    else Plain
