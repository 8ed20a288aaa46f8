-- What the look-ups come to.
use Rattle.std.proofs.Common.{◌≡◌, ℕ, Bool, true, false, not, List, [], ◌∷◌, ◌++◌, ◌==◌, map, fold, max, find, filter, filter_map, is_none, is_some, unwrap_or, Vec, Option, Some, None, IfSome, if◌then◌else◌, refl, sym, ap, ◌∙◌}
use Rattle.std.proofs.Math.Path.{fun_ext}
use Rattle.std.specs.declared.alloc.Global.{Global}
use Rattle.uc_term.specs.declared.node.Sym.{Sym}
use Rattle.uc_term.specs.declared.fresh.Fresh.{Fresh}
use Rattle.uc_term.specs.declared.signature.Signature.{Signature}
use Rattle.uc_term.specs.Table.{Table, Has, name_of, arity_of}
use Rattle.uc_term.specs.Signatures.{first_named}
use Rattle.uc_order.specs.Members.{Each, In}
use Rattle.uc_words.specs.declared.command.OrderWords.{OrderWords}
use Rattle.uc_ordering.specs.declared.options.Options.{Options}
use Rattle.uc_ordering.specs.declared.fault.ChoiceFault.{ChoiceFault}
use Rattle.uc_ordering.specs.declared.fault.ChoiceFault.TheVariants.{UnknownSymbol, NotTotal, BadWeight, NoMemory}
use Rattle.uc_ordering.specs.Numbers.{number_in, symbol_in, is_bad_in, IsLacking, IsAgain, IsBadAmong}
use Rattle.uc_ordering.specs.Options.{AreRead}
use Rattle.uc_ordering.specs.Precedence.{by_arity, is_named, unnamed, symbols_named}
use Rattle.uc_ordering.specs.Weights.{weight_of, is_bad_at, is_bad_for}
use Rattle.uc_ordering.specs.Choice.{own_symbols, first_again, first_or, first_unknown, first_twice, first_bad, own_precedence, own_weights, heaviest_constant, weighed_names, marks_at, with_behind, spec_of, chosen, IsChoiceFault}
use Rattle.uc_ordering.proofs.Lists.{each_in, in_each}
use Rattle.uc_ordering.proofs.Signatures.{Signed, found_is}
use Rattle.uc_ordering.proofs.Named.{find_none-left}
use Rattle.uc_ordering.proofs.Totals.{total}
use Rattle.uc_ordering.proofs.Fitting.{both_none}

abbrev pub Entries : Type 0
Entries = List (Vec ℕ Global × ℕ)

-- the first of two lists that is so
pub found_left : {X : Type 0} (p : X → Bool) (xs ys : List X) (x : X) → find p xs ≡ Some x → find p (xs ++ ys) ≡ Some x
found_left p [] ys x e = absurd cc
found_left p (y ∷ xs) ys x e = go (p y) e (found_left p xs ys x)
  where
    go : (b : Bool) → (if b then Some y else find p xs) ≡ Some x → (find p xs ≡ Some x → find p (xs ++ ys) ≡ Some x) → (if b then Some y else find p (xs ++ ys)) ≡ Some x
    go true e later = e
    go false e later = later e

pub found_right : {X : Type 0} (p : X → Bool) (xs ys : List X) → find p xs ≡ None → find p (xs ++ ys) ≡ find p ys
found_right p [] ys e = refl
found_right p (y ∷ xs) ys e = go (p y) e (found_right p xs ys)
  where
    go : (b : Bool) → (if b then Some y else find p xs) ≡ None → (find p xs ≡ None → find p (xs ++ ys) ≡ find p ys) → (if b then Some y else find p (xs ++ ys)) ≡ find p ys
    go true e later = absurd cc
    go false e later = later e

none_is : (o : Option ℕ) → is_none o ≡ not (is_some o)
none_is None = refl
none_is (Some n) = refl

-- names among which one is lacking
module _ (by_name : Entries) (xs ys : List (List ℕ)) where
  pub none_lacking : find (λ name. is_none (symbol_in by_name name)) xs ≡ None → find (λ name. is_none (symbol_in by_name name)) ys ≡ None → find (λ name. is_none (symbol_in by_name name)) (xs ++ ys) ≡ None
  none_lacking a b = found_right (λ name. is_none (symbol_in by_name name)) xs ys a ∙ b

  pub lacking_left : (fault : ChoiceFault) → IsLacking by_name xs fault → IsLacking by_name (xs ++ ys) fault
  lacking_left (UnknownSymbol name) e = found_left (λ name. is_none (symbol_in by_name name)) xs ys name e
  lacking_left (NotTotal name) e = e
  lacking_left (BadWeight name weight) e = e
  lacking_left NoMemory e = e

  pub lacking_right : (fault : ChoiceFault) → find (λ name. is_none (symbol_in by_name name)) xs ≡ None → IsLacking by_name ys fault → IsLacking by_name (xs ++ ys) fault
  lacking_right (UnknownSymbol name) a e = found_right (λ name. is_none (symbol_in by_name name)) xs ys a ∙ e
  lacking_right (NotTotal name) a e = e
  lacking_right (BadWeight name weight) a e = e
  lacking_right NoMemory a e = e

-- names of which one stands twice
module _ (o p : Option (List ℕ)) where
  pub none_again : o ≡ None → p ≡ None → first_or o p ≡ None
  none_again a b = ap (λ n. first_or n p) a ∙ b

  pub again_left : (fault : ChoiceFault) → IsAgain o fault → IsAgain (first_or o p) fault
  again_left (UnknownSymbol name) e = e
  again_left (NotTotal name) e = ap (λ n. first_or n p) e
  again_left (BadWeight name weight) e = e
  again_left NoMemory e = e

  pub again_right : (fault : ChoiceFault) → o ≡ None → IsAgain p fault → IsAgain (first_or o p) fault
  again_right fault a e = rw a e

module _ (table : Table) (signature : Signature) (words : OrderWords) where
  pub one_twice : (fault : ChoiceFault) → first_unknown table signature words ≡ None → IsAgain (first_twice table signature words) fault → IsChoiceFault table signature words fault
  one_twice (UnknownSymbol name) k e = absurd e
  one_twice (NotTotal name) k e = (k, e)
  one_twice (BadWeight name weight) k e = absurd e
  one_twice NoMemory k e = tt

  module _ (by_name : Entries) (looked : (name : List ℕ) → symbol_in by_name name ≡ first_named table name (own_symbols signature)) where
    same_look : symbol_in by_name ≡ (λ name. first_named table name (own_symbols signature))
    same_look = fun_ext looked

    same_lack : (names : List (List ℕ)) → find (λ name. is_none (symbol_in by_name name)) names ≡ find (λ name. is_none (first_named table name (own_symbols signature))) names
    same_lack names = ap (λ (F : List ℕ → Option Sym). find (λ name. is_none (F name)) names) same_look

    pub all_known : find (λ name. is_none (symbol_in by_name name)) (words.precedence ++ weighed_names words) ≡ None → first_unknown table signature words ≡ None
    all_known a = sym (same_lack (words.precedence ++ weighed_names words)) ∙ a

    pub one_unknown : (fault : ChoiceFault) → IsLacking by_name (words.precedence ++ weighed_names words) fault → IsChoiceFault table signature words fault
    one_unknown (UnknownSymbol name) e = sym (same_lack (words.precedence ++ weighed_names words)) ∙ e
    one_unknown (NotTotal name) e = absurd e
    one_unknown (BadWeight name weight) e = absurd e
    one_unknown NoMemory e = tt

    pub made_named : (named : List Sym) → named ≡ filter_map (symbol_in by_name) words.precedence → named ≡ symbols_named table (own_symbols signature) words.precedence
    made_named named e = e ∙ ap (λ (F : List ℕ → Option Sym). filter_map F words.precedence) same_look

  module _ (options : Options) (read : AreRead table signature words options) where
    pub made_precedence : (list : List Sym) → list ≡ by_arity table (filter (λ f. is_none (number_in options.names.map.entries (name_of table f))) signature.symbols) ++ options.named.items → list ≡ own_precedence table signature words
    made_precedence list made =
        let tests : (λ (f : Sym). is_none (number_in options.names.map.entries (name_of table f))) ≡ (λ f. not (is_named table words.precedence f)) = fun_ext (λ f. none_is (number_in options.names.map.entries (name_of table f)) ∙ ap not (read.names (name_of table f))) in
        made ∙ ap (λ (p : Sym → Bool). by_arity table (filter p signature.symbols) ++ options.named.items) tests ∙ ap (λ fs. by_arity table (unnamed table words.precedence signature.symbols) ++ fs) read.named

    tested : (precedence : List Sym) → (p : List ℕ × ℕ) → is_bad_in table words.w0 options.by_name.map.entries precedence p ≡ is_bad_for table words.w0 (own_symbols signature) precedence p
    tested precedence p = ap (λ o. is_bad_at table words.w0 precedence o p.1) (read.by_name p.0)

    same_bad : (precedence : List Sym) → precedence ≡ own_precedence table signature words → find (is_bad_in table words.w0 options.by_name.map.entries precedence) words.weights ≡ first_bad table signature words
    same_bad precedence e = ap (λ (p : List ℕ × ℕ → Bool). find p words.weights) (fun_ext (tested precedence)) ∙ ap (λ fs. find (is_bad_for table words.w0 (own_symbols signature) fs) words.weights) e

    pub none_is_bad : (precedence : List Sym) → precedence ≡ own_precedence table signature words → find (is_bad_in table words.w0 options.by_name.map.entries precedence) words.weights ≡ None → first_bad table signature words ≡ None
    none_is_bad precedence e b = sym (same_bad precedence e) ∙ b

    pub bad_third : (precedence : List Sym) (fault : ChoiceFault) → precedence ≡ own_precedence table signature words → IsBadAmong table words.w0 options.by_name.map.entries precedence words.weights fault → IsChoiceFault table signature words fault
    bad_third precedence (UnknownSymbol name) e b = absurd b
    bad_third precedence (NotTotal name) e b = absurd b
    bad_third precedence (BadWeight name weight) e b = (read.known, read.once, sym (same_bad precedence e) ∙ b)
    bad_third precedence NoMemory e b = tt

    pub made_weights : (precedence : List Sym) (weights : List ℕ) → precedence ≡ own_precedence table signature words → weights ≡ map (λ f. unwrap_or (number_in options.given.map.entries (name_of table f)) words.w0) precedence → weights ≡ own_weights table signature words
    made_weights precedence weights e made = made ∙ ap (λ (F : List ℕ → Option ℕ). map (λ f. unwrap_or (F (name_of table f)) words.w0) precedence) (fun_ext read.given) ∙ ap (map (weight_of table words.w0 words.weights)) e

    pub made_heaviest : (most : ℕ) → most ≡ fold (λ n f. if arity_of table f == 0 then max n (unwrap_or (number_in options.given.map.entries (name_of table f)) words.w0) else n) 0 signature.symbols → most ≡ heaviest_constant table signature words
    made_heaviest most made = made ∙ ap (λ (F : List ℕ → Option ℕ). fold (λ n f. if arity_of table f == 0 then max n (unwrap_or (F (name_of table f)) words.w0) else n) 0 signature.symbols) (fun_ext read.given)

    -- a symbol that is looked up is the table's
    pub looked_has : Signed table (own_symbols signature) signature → (name : List ℕ) → IfSome (symbol_in options.by_name.map.entries name) (Has table)
    looked_has s name = go (symbol_in options.by_name.map.entries name) (read.by_name name)
      where
        go : (o : Option Sym) → o ≡ first_named table name (own_symbols signature) → IfSome o (Has table)
        go None e = tt
        go (Some f) e = in_each (Has table) signature.symbols f s.has (s.own_in f (found_is table (own_symbols signature) name f (sym e)).0)

    -- the precedence is of the table
    pub precedence_has : Signed table (own_symbols signature) signature → Each (Has table) (own_precedence table signature words)
    precedence_has s =
        let t = total table (own_symbols signature) signature s words.precedence (find_none-left (λ name. is_none (first_named table name (own_symbols signature))) words.precedence (weighed_names words) read.known) (both_none (first_again words.precedence) (first_again (weighed_names words)) read.once).0 in
        each_in (Has table) (own_precedence table signature words) (λ f i. in_each (Has table) signature.symbols f s.has (in_each (In signature.symbols) (own_precedence table signature words) f t.0 i))

-- the problem's own symbols are the table's
pub own_has : (table : Table) (signature : Signature) → Signed table (own_symbols signature) signature → Each (Has table) (own_symbols signature)
own_has table signature s = each_in (Has table) (own_symbols signature) (λ f i. in_each (Has table) signature.symbols f s.has (s.own_in f i))

module _ (table : Table) (signature : Signature) (words : OrderWords) (list : List Sym) (weights : List ℕ) (list_is : list ≡ own_precedence table signature words) (weights_are : weights ≡ own_weights table signature words) where
  pub plain_chosen : spec_of words.lpo words.w0 weights list ≡ chosen table signature words None
  plain_chosen = ap (λ ws. spec_of words.lpo words.w0 ws list) weights_are ∙ ap (spec_of words.lpo words.w0 (own_weights table signature words)) list_is

  pub marked_chosen : (marks : Fresh) (heavy : ℕ) → heavy ≡ heaviest_constant table signature words → spec_of words.lpo words.w0 (with_behind (marks_at words.lpo weights) weights (heavy ∷ heavy ∷ words.w0 ∷ [])) (with_behind (marks_at words.lpo weights) list (marks.yes ∷ marks.no ∷ marks.eq ∷ [])) ≡ chosen table signature words (Some marks)
  marked_chosen marks heavy h =
      let three : List Sym = marks.yes ∷ marks.no ∷ marks.eq ∷ [] in
      ap (λ (n : ℕ). spec_of words.lpo words.w0 (with_behind (marks_at words.lpo weights) weights (n ∷ n ∷ words.w0 ∷ [])) (with_behind (marks_at words.lpo weights) list three)) h
      ∙ ap (λ (ws : List ℕ). spec_of words.lpo words.w0 (with_behind (marks_at words.lpo ws) ws (heaviest_constant table signature words ∷ heaviest_constant table signature words ∷ words.w0 ∷ [])) (with_behind (marks_at words.lpo ws) list three)) weights_are
      ∙ ap (λ (fs : List Sym). spec_of words.lpo words.w0 (with_behind (marks_at words.lpo (own_weights table signature words)) (own_weights table signature words) (heaviest_constant table signature words ∷ heaviest_constant table signature words ∷ words.w0 ∷ [])) (with_behind (marks_at words.lpo (own_weights table signature words)) fs three)) list_is
