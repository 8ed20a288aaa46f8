-- What a token is to the grammar, and what it stands for.
use Rattle.std.specs.Prelude.{ℕ, ◌==◌, List, [], length, Option, Some, None, slice_get, slice_index, if◌then◌else◌}
use Rattle.uc_clause.specs.declared.token.Token.{Token}
use Rattle.uc_clause.specs.declared.token.Kind.{Kind}
use Rattle.uc_clause.specs.declared.token.Kind.TheVariants as kind
use Rattle.uc_clause.specs.declared.token.Place.{Place}
use Rattle.uc_clause.specs.Tokens.{bytes_of, place_of}
use Rattle.uc_clause.specs.Names.{word_of}
use Rattle.uc_clause.specs.declared.terminal.Terminal.{Terminal}
use Rattle.uc_clause.specs.declared.terminal.Terminal.TheVariants.{Lower, Upper, Quoted, Distinct, Integer, Dollar, Unequal, Open, Close, OpenSquare, CloseSquare, Comma, Dot, Equal, Bar, Tilde, Star, OtherMark, End}

-- the marks ( ) [ ] , . = | ~ * by their bytes
abbrev pub terminal_of_mark : ℕ → Terminal
terminal_of_mark b =
    if b == 40 then Open
    else (if b == 41 then Close
    else (if b == 91 then OpenSquare
    else (if b == 93 then CloseSquare
    else (if b == 44 then Comma
    else (if b == 46 then Dot
    else (if b == 61 then Equal
    else (if b == 124 then Bar
    else (if b == 126 then Tilde
    else (if b == 42 then Star
    else OtherMark)))))))))

abbrev pub terminal_of_kind : Kind → ℕ → Terminal
terminal_of_kind kind.Lower b = Lower
terminal_of_kind kind.Upper b = Upper
terminal_of_kind kind.Quoted b = Quoted
terminal_of_kind kind.Distinct b = Distinct
terminal_of_kind kind.Integer b = Integer
terminal_of_kind kind.Dollar b = Dollar
terminal_of_kind kind.Unequal b = Unequal
terminal_of_kind kind.Mark b = terminal_of_mark b

-- what a token is: by its kind, and a mark by its byte
abbrev pub terminal_of : List ℕ → Token → Terminal
terminal_of bytes token = terminal_of_kind token.kind (slice_index bytes token.from)

abbrev pub terminal_or_end : List ℕ → Option Token → Terminal
terminal_or_end bytes (Some token) = terminal_of bytes token
terminal_or_end bytes None = End

-- what stands at the token of this number; the end of the text counts as a last token
abbrev pub terminal_at : List ℕ → List Token → ℕ → Terminal
terminal_at bytes tokens at = terminal_or_end bytes (slice_get tokens at)

abbrev pub bytes_or_none : List ℕ → Option Token → List ℕ
bytes_or_none bytes (Some token) = bytes_of bytes token
bytes_or_none bytes None = []

-- the bytes of the token of this number, none at the end of the text
abbrev pub bytes_at : List ℕ → List Token → ℕ → List ℕ
bytes_at bytes tokens at = bytes_or_none bytes (slice_get tokens at)

abbrev pub word_or_none : List ℕ → Option Token → List ℕ
word_or_none bytes (Some token) = word_of bytes token
word_or_none bytes None = []

-- the word that the token of this number stands for
abbrev pub word_at : List ℕ → List Token → ℕ → List ℕ
word_at bytes tokens at = word_or_none bytes (slice_get tokens at)

abbrev pub place_or_end : List ℕ → Option Token → Place
place_or_end bytes (Some token) = token.place
place_or_end bytes None = place_of bytes (length bytes)

-- where the token of this number begins; the end of the text stands behind the last byte
abbrev pub place_at : List ℕ → List Token → ℕ → Place
place_at bytes tokens at = place_or_end bytes (slice_get tokens at)
