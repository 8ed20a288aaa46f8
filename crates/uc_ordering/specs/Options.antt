-- What the options say of a problem's symbols, looked up.
use Rattle.std.specs.Prelude.{◌≡◌, ℕ, List, None, is_some, bytes_eq}
use Rattle.std.specs.List.{list_any}
use Rattle.uc_term.specs.declared.signature.Signature.{Signature}
use Rattle.uc_term.specs.Table.{Table}
use Rattle.uc_term.specs.Signatures.{first_named}
use Rattle.uc_words.specs.declared.command.OrderWords.{OrderWords}
use Rattle.uc_ordering.specs.declared.options.Options.{Options}
use Rattle.uc_ordering.specs.Choice.{own_symbols, first_unknown, first_twice}
use Rattle.uc_ordering.specs.Numbers.{number_in, symbol_in}
use Rattle.uc_ordering.specs.Precedence.{symbols_named}
use Rattle.uc_ordering.specs.Weights.{weight_given}

-- each name of the options is a symbol's and none stands twice in one option, and this is what they say
pub record AreRead (table : Table) (signature : Signature) (words : OrderWords) (options : Options) : Type 0 where
  pub known : first_unknown table signature words ≡ None
  pub once : first_twice table signature words ≡ None
  pub by_name : (name : List ℕ) → symbol_in options.by_name.map.entries name ≡ first_named table name (own_symbols signature)
  pub named : options.named.items ≡ symbols_named table (own_symbols signature) words.precedence
  pub names : (name : List ℕ) → is_some (number_in options.names.map.entries name) ≡ list_any (bytes_eq name) words.precedence
  pub given : (name : List ℕ) → number_in options.given.map.entries name ≡ weight_given words.weights name
