-- The table of symbols that reading a system leaves.
use Rattle.std.proofs.Common.{◌≡◌, ℕ, ◌≤◌, List, drop, refl, sym, ap, ◌∙◌, subst, arith, Bool, true, Option, Some, None}
use Rattle.std.specs.Prelude.{Result, Ok, Err, IfOk, IfSome}
use Rattle.std.specs.declared.alloc.AllocError.{AllocError}
use Rattle.uc_term.specs.declared.node.Sym.{Sym}
use Rattle.uc_term.specs.declared.equation.Equation.{Equation}
use Rattle.uc_term.specs.Table.{Table, Has, Grows, IsInterned, arity_of}
use Rattle.uc_clause.specs.Printable.{IsPrintableSymbol}
use Rattle.uc_clause.specs.Interning.{InternsEquation, with_symbol, with_term, with_sides}
use Rattle.uc_clause.proofs.Interned.{interned_is}
use Rattle.uc_clause.proofs.InternedOnce.{equation_interns_once}
use Rattle.uc_clause.proofs.Kept.{term_kept}
use Rattle.uc_order.specs.Members.{In, Each}
use Rattle.uc_system.specs.declared.fault.SystemFault.{SystemFault}
use Rattle.uc_system.specs.declared.header.Kind.{Kind}
use Rattle.uc_system.specs.declared.header.Header.{Header}
use Rattle.uc_system.specs.declared.header.Heading.{Heading}
use Rattle.uc_system.specs.declared.header.Heading.TheVariants.{Heavy, Light}
use Rattle.uc_system.specs.declared.lines.Cursor.{Cursor}
use Rattle.uc_system.specs.declared.system.SystemText.{SystemText}
use Rattle.uc_system.specs.Numerals.{value_of}
use Rattle.uc_system.specs.Lines.{Cut, first_line, gets, goes_on, passed_or, value_or, picked}
use Rattle.uc_system.specs.Header.{version_by, version_of, heading_of, kind_of, kind_fault, header_lines}
use Rattle.uc_system.specs.Places.{IsNext}
use Rattle.uc_system.specs.Symbols.{begins_symbol, Parts, IsSymbolLine}
use Rattle.uc_system.specs.Unread.{IsFactText, IsFactIn}
use Rattle.uc_system.specs.Written.{IsWritten, IsWordOf}
use Rattle.uc_system.specs.Reads.{Gives, InternsLine}
use Rattle.uc_system.specs.Interning.{with_parts, InternsSymbols, interns_none, interns_one, InternsSystem}
use Rattle.uc_system.proofs.Precedence.{each_in}
use Rattle.uc_system.proofs.FactTexts.{fact_again}
use Rattle.uc_system.proofs.SymbolReading.{parts_of, symbol_line_is}
use Rattle.uc_system.proofs.SymbolsOnce.{parts_once, some_once}

-- a symbol's line
pub line_interns : (kind : Kind) (old new : Table) (bytes : List ℕ) (at next : Cursor) (line : List ℕ) → IsNext bytes at line next → (spelled : List ℕ) (arity weight : ℕ) → IsWritten kind line spelled arity weight → (name : List ℕ) → IsWordOf spelled (Some name) → arity ≤ 255 → (f : Sym) → IsInterned old new name arity f → InternsLine kind (drop at.from bytes) (drop next.from bytes) old new
line_interns kind old new bytes at next line is spelled arity weight h name word few f i =
    let digits : value_of h.arity_digits ≡ arity = omega (arith, h.arity_is) in
    record {
      line = line;
      is_first = is.is;
      parts = parts_of kind line spelled arity weight h name;
      is_symbol = symbol_line_is kind line spelled arity weight h name word.0 word.1;
      new_is = interned_is old new name arity f i ∙ ap (with_symbol old name) (sym digits);
    }

-- and those behind it
pub one_interned : (kind : Kind) (text rest : List ℕ) (old middle new : Table) → begins_symbol text ≡ true → InternsLine kind text rest old middle → InternsSymbols kind rest middle new → InternsSymbols kind text old new
one_interned kind text rest old middle new b l more = interns_one b l.is_first l.is_symbol (subst (λ (t : Table). InternsSymbols kind rest t new) l.new_is more)

-- a fact is over symbols that the table has
module _ (old new : Table) (grows : Grows old new) (keys : List Sym) (printable : Each (IsPrintableSymbol old) keys) where
  has_key : (f : Sym) → In keys f → Has old f
  has_key f i = (each_in (IsPrintableSymbol old) keys f printable i).0

  pub fact_keeps : (text : List ℕ) (e : Equation) → Each (IsPrintableSymbol new) keys → IsFactText new keys text e → InternsEquation text old new → new ≡ old
  fact_keeps text e later t i =
      let r = fact_again new keys later text e t in
      let left : with_term text r.tokens old r.parse.left ≡ old = term_kept old new grows (In keys) has_key (arity_of new) (λ _. Unit {0}) text r.tokens _ r.means.means_left t.fact.left.over in
      let right : with_term text r.tokens old r.parse.right ≡ old = term_kept old new grows (In keys) has_key (arity_of new) (λ _. Unit {0}) text r.tokens _ r.means.means_right t.fact.right.over in
      let kept : with_sides text r.tokens old r.parse ≡ old = ap (λ x. with_term text r.tokens x r.parse.right) left ∙ right in
      let same : InternsEquation text old old = record { tokens = r.tokens; are_tokens = r.are_tokens; parse = r.parse; end = r.end; reads = r.reads; new_is = sym kept } in
      equation_interns_once i same

  pub checked_keeps : (text : List ℕ) (result : Result (Option Equation) AllocError) → Each (IsPrintableSymbol new) keys → IfOk result (IsFactIn new keys text) → InternsEquation text old new → IfOk result (λ found. IfSome found (λ _. new ≡ old))
  checked_keeps text (Ok None) later t i = tt
  checked_keeps text (Ok (Some e)) later t i = fact_keeps text e later t i
  checked_keeps text (Err u) later t i = tt

-- the first two lines, each with what stands behind it
record IsVersionCut (c : Option Cut) (rest : List ℕ) : Type 0 where
  cut : Cut
  is : c ≡ Some cut
  rest_is : cut.rest ≡ rest

record IsKindCut (c : Option Cut) (kind : Kind) (rest : List ℕ) : Type 0 where
  cut : Cut
  is : c ≡ Some cut
  kind_is : kind_of cut.line ≡ Some kind
  rest_is : cut.rest ≡ rest

version_rest : (h : Heading) (n m : ℕ) (r rest : List ℕ) (light : Bool) → gets light m rest ≡ version_by h n r → r ≡ rest
version_rest Heavy n m r rest light e = cc
version_rest Light n m r rest light e = cc
version_rest h n m r rest light e = absurd (cc)

version_cut : (c : Option Cut) (n m : ℕ) (rest : List ℕ) (light : Bool) → gets light m rest ≡ version_of n c → IsVersionCut c rest
version_cut None n m rest light e = absurd (cc)
version_cut (Some c) n m rest light e = record { cut = c; is = refl; rest_is = version_rest (heading_of c.line) n m c.rest rest light e }

kind_value : (o : Option Kind) (n m : ℕ) (r rest : List ℕ) (kind : Kind) → gets kind m rest ≡ value_or o n r → (o ≡ Some kind) × (r ≡ rest)
kind_value (Some k) n m r rest kind e = let same : k ≡ kind = cc in (ap Some same, cc)
kind_value None n m r rest kind e = absurd (cc)

kind_cut : (c : Option Cut) (n m : ℕ) (rest : List ℕ) (kind : Kind) → gets kind m rest ≡ picked kind_of n c → IsKindCut c kind rest
kind_cut None n m rest kind e = absurd (cc)
kind_cut (Some c) n m rest kind e = let r = kind_value (kind_of c.line) n m c.rest rest kind e in record { cut = c; is = refl; kind_is = r.0; rest_is = r.1 }

passed_rest : (fault : Option SystemFault) (n m : ℕ) (text rest : List ℕ) (u : Unit {0}) → gets u m rest ≡ passed_or fault n text → text ≡ rest
passed_rest None n m text rest u e = cc
passed_rest (Some fault) n m text rest u e = absurd (cc)

pub header_interns : {n m : ℕ} {text rest : List ℕ} (header : Header) (old new : Table) → header_lines n text (gets header m rest) → InternsSymbols header.kind rest old new → InternsSystem text old new
header_interns {text = text} {rest = rest} header old new (goes_on {v = first} {m = i} {rest = p} h (goes_on {v = light} {m = j} {rest = q} v (goes_on {v = kind} {m = l} {rest = r} k (goes_on {v = w} {m = o} {rest = s} u g)))) more =
    let texts : p ≡ text = cc in
    let a = version_cut (first_line p) i j q light v in
    let b = kind_cut (first_line q) j l r kind k in
    let passed : r ≡ s = passed_rest (kind_fault first light kind) l o r s w u in
    let kinds : kind ≡ header.kind = cc in
    let rests : rest ≡ s = cc in
    record {
      first = a.cut;
      second = b.cut;
      kind = kind;
      is_first = ap first_line (sym texts) ∙ a.is;
      is_second = ap first_line a.rest_is ∙ b.is;
      is_kind = b.kind_is;
      interns = subst (λ (x : Kind). InternsSymbols x b.cut.rest old new) (sym kinds) (subst (λ (x : List ℕ). InternsSymbols header.kind x old new) (rests ∙ sym passed ∙ sym b.rest_is) more);
    }

pub system_interns : (bytes : List ℕ) (at here : Cursor) (header : Header) (old new : Table) (result : Result (SystemText × Cursor) SystemFault) → Gives header_lines bytes at (Ok (header, here)) → IfOk result (λ _. InternsSymbols header.kind (drop here.from bytes) old new) → IfOk result (λ _. InternsSystem (drop at.from bytes) old new)
system_interns bytes at here header old new (Ok r) g i = header_interns header old new g.0 i
system_interns bytes at here header old new (Err fault) g i = tt

-- the table is one
symbols_intern_once : (kind : Kind) {text : List ℕ} {old a b : Table} → InternsSymbols kind text old a → InternsSymbols kind text old b → a ≡ b
symbols_intern_once kind (interns_none e) (interns_none f) = refl
symbols_intern_once kind (interns_none e) (interns_one f c l x) = absurd (cc)
symbols_intern_once kind (interns_one e c l x) (interns_none f) = absurd (cc)
symbols_intern_once kind {old = old} {b = b} (interns_one {c = c} {p = p} e f l x) (interns_one {c = d} {p = q} g h m y) =
    let cuts : c ≡ d = some_once c d (sym f ∙ h) in
    let parts : p ≡ q = parts_once kind c.line p q l (subst (λ (v : Cut). IsSymbolLine kind v.line q) (sym cuts) m) in
    let moved : InternsSymbols kind d.rest (with_parts old p) b = subst (λ (v : Parts). InternsSymbols kind d.rest (with_parts old v) b) (sym parts) y in
    symbols_intern_once kind x (subst (λ (v : Cut). InternsSymbols kind v.rest (with_parts old p) b) (sym cuts) moved)

pub system_interns_once : {text : List ℕ} {old a b : Table} → InternsSystem text old a → InternsSystem text old b → a ≡ b
system_interns_once {text} {old} {a} {b} x y =
    let firsts : x.first ≡ y.first = some_once x.first y.first (sym x.is_first ∙ y.is_first) in
    let seconds : x.second ≡ y.second = some_once x.second y.second (sym x.is_second ∙ ap (λ (v : Cut). first_line v.rest) firsts ∙ y.is_second) in
    let kinds : x.kind ≡ y.kind = some_once x.kind y.kind (sym x.is_kind ∙ ap (λ (v : Cut). kind_of v.line) seconds ∙ y.is_kind) in
    let moved : InternsSymbols y.kind x.second.rest old b = subst (λ (v : Cut). InternsSymbols y.kind v.rest old b) (sym seconds) y.interns in
    symbols_intern_once x.kind x.interns (subst (λ (k : Kind). InternsSymbols k x.second.rest old b) (sym kinds) moved)
