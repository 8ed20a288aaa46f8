-- From what reading and checking a certificate promise to what it is, and to the answer.
use Rattle.std.proofs.Common.{◌⊎◌, inl, inr, ℕ, suc, ◌≡◌, ◌+◌, ◌<◌, ◌≤◌, true, false, List, [], ◌∷◌, ◌++◌, length, take, get_or, slice_get, Option, Some, None, Result, Ok, Err, refl, sym, subst, arith}
use Rattle.std.proofs.lemmas.List.{take_all, length-take-le}
use Rattle.std.proofs.lemmas.Bool.Decides.{leb_tells}
use Rattle.std.proofs.lemmas.Option.{slice_get_read}
use Rattle.std.specs.Prelude.{nat_le}
use Rattle.std.specs.Result.{IfOk}
use Rattle.std.specs.declared.alloc.AllocError.{AllocError}
use Rattle.uc_term.specs.declared.equation.Equation.{Equation}
use Rattle.uc_term.specs.declared.equation.Side.{Side}
use Rattle.uc_term.specs.declared.equation.Side.TheVariants.{Left, Right}
use Rattle.uc_term.specs.Equations.{side_of}
use Rattle.uc_term.specs.Table.{Table, Grows, IsDistinct}
use Rattle.uc_term.specs.Tree.{Tree, nodes}
use Rattle.uc_edge.specs.Files.{Files}
use Rattle.uc_edge.specs.declared.library.Fetched.TheVariants.{Found}
use Rattle.uc_clause.specs.declared.clause.Sourced.{Sourced}
use Rattle.uc_clause.specs.declared.fault.What.TheVariants as what
use Rattle.uc_problem.specs.declared.fault.EncodeFault.TheVariants.{GoalTooLarge}
use Rattle.uc_problem.specs.declared.problem.Problem.{Problem}
use Rattle.uc_problem.specs.declared.problem.Encoded.{Encoded}
use Rattle.uc_problem.specs.Encodes.{IsEncoded}
use Rattle.uc_problem.specs.Filling.{AddsMarks}
use Rattle.uc_problem.proofs.Later.{Grows-refl}
use Rattle.uc_tstp.specs.Framing.{max_proof}
use Rattle.uc_order.specs.Laws.{Meaning}
use Rattle.uc_order.specs.Members.{Each}
use Rattle.uc_fact.specs.declared.fact.Overlap.{Overlap as AnyOverlap}
use Rattle.uc_fact.specs.Live.{Live, Rule, numbered, numbered_from}
use Rattle.uc_pair.specs.declared.formed.Formed.{Formed}
use Rattle.uc_pair.specs.Listing.{Lists, no_more_places, at_variable, no_unifier, repeats, goes_nowhere, leads_up, is_listed, no_rules, next_rules, AreOverlaps}
use Rattle.uc_pair.specs.Overlapping.{read_from}
use Rattle.uc_ordering.specs.Meaning.{meaning_of}
use Rattle.uc_certificate.specs.declared.certificate.Certificate.{Certificate}
use Rattle.uc_certificate.specs.declared.certificate.Join.{Join}
use Rattle.uc_certificate.specs.declared.fault.CertFault.{CertFault}
use Rattle.uc_certificate.specs.declared.fault.CertFault.TheVariants.{Syntax, Version, Limit, UnknownRule, UnknownName, RepeatedName, NoMemory}
use Rattle.uc_certificate.specs.Interning.{InternsCertificate}
use Rattle.uc_certificate.specs.Reading.{IsReading}
use Rattle.uc_certify.specs.declared.certified.Certified.{Certified}
use Rattle.uc_certify.specs.declared.certified.Certified.TheVariants as certified
use Rattle.uc_certify.specs.declared.expected.Member.{Member}
use Rattle.uc_certify.specs.declared.expected.Member.TheVariants.{Axiom, Overlap}
use Rattle.uc_certify.specs.Certifying.{AreTested, all_joined, too_many, is_large, is_missing, is_wrong, is_right, IsCertified, other_symbols, wrong_line, wrong_fact, by_joins}
use Rattle.uc_certify.specs.Expecting.{axioms_from, members_of, OverlapsWith, no_inner, next_inner, AllOverlaps, no_outer, next_outer, AreExpected}
use Rattle.uc_answer.specs.declared.answer.Answer.{Answer}
use Rattle.uc_answer.specs.Lines.{joined}
use Rattle.uc_answer.specs.Refusals.{large_line}
use Rattle.uc_answer.specs.CertifyLines.{cert_fault_line}
use Rattle.uc_top.specs.Answers.{LoadAnswers, is_loaded}
use Rattle.uc_top.specs.CertificateAnswers.{CertificateTextAnswers, isnt_certificate, is_certificate, CertificateAnswers, has_large_goal, is_encoded}
use Rattle.uc_top.specs.CertificateTested.{IsRefusal, fails_so, IsTestedAs, PassesText, IsTestedText, PassesFile, IsTestedFile, PassesTests, IsTested}
use Rattle.uc_top.specs.declared.certificates.Tested.{Tested}
use Rattle.uc_top.specs.declared.certificates.Tested.TheVariants.{Refused, Passed}
use Rattle.uc_top.specs.FileAnswers.{IsTextFetched, FileAnswers, is_absent, isnt_fetched, is_found}
use Rattle.uc_top.specs.HandedOn.{IsHeld}
use Rattle.uc_top.proofs.HandingOn.{held}
use Rattle.uc_top.proofs.Answering.{one_line, large_within}
use Rattle.uc_top.proofs.CertificateOrders.{each_mapped}
use Rattle.uc_top.proofs.FileAnswering.{is_found_text, earlier_file}

-- A LARGE OVERLAP

each_append : {A : Type 0} (P : A → Type 0) (xs ys : List A) → Each P xs → Each P ys → Each P (xs ++ ys)
each_append P [] ys a b = b
each_append P (x ∷ xs) ys a b = (a.0, each_append P xs ys a.1 b)

-- the overlap's outer fact, in which its position stands
record HasOuter (facts : List Equation) (o : AnyOverlap) : Type 0 where
  outer : Equation
  outer_is : slice_get facts o.outer ≡ Some outer
  inside : o.position.0 < nodes (side_of o.outer_side outer)

-- an overlap of this outer rule
record IsOfRule (outer : Rule) (g : Formed) : Type 0 where
  number_is : g.overlap.outer ≡ outer.number
  side_is : g.overlap.outer_side ≡ outer.side
  inside : g.overlap.position.0 < nodes outer.from

-- and of this outer fact
record IsOfFact (i : ℕ) (a : Equation) (g : Formed) : Type 0 where
  number_is : g.overlap.outer ≡ i
  inside : g.overlap.position.0 < nodes (side_of g.overlap.outer_side a)

of_fact : (i : ℕ) (s : Side) (a : Equation) (g : Formed) → IsOfRule (read_from i s a) g → IsOfFact i a g
of_fact i Left a g h = record { number_is = h.number_is; inside = subst (λ (t : Side). g.overlap.position.0 < nodes (side_of t a)) (sym h.side_is) h.inside }
of_fact i Right a g h = record { number_is = h.number_is; inside = subst (λ (t : Side). g.overlap.position.0 < nodes (side_of t a)) (sym h.side_is) h.inside }

module _ (Greater : Tree → Tree → Type 0) where
  of_rules : (outer inner : Rule) (place : ℕ) (fs : List Formed) → Lists Greater outer inner place fs → Each (IsOfRule outer) fs
  of_rules outer inner place _ (no_more_places l) = tt
  of_rules outer inner place fs (at_variable l n k) = of_rules outer inner (place + 1) fs k
  of_rules outer inner place fs (no_unifier l n k) = of_rules outer inner (place + 1) fs k
  of_rules outer inner place fs (repeats l n k) = of_rules outer inner (place + 1) fs k
  of_rules outer inner place fs (goes_nowhere l n u k) = of_rules outer inner (place + 1) fs k
  of_rules outer inner place fs (leads_up o u k) = of_rules outer inner (place + 1) fs k
  of_rules outer inner place _ (is_listed {list = fs} o r u z k) = (record { number_is = refl; side_is = refl; inside = o.inside }, of_rules outer inner (place + 1) fs k)

  of_side : (i : ℕ) (s : Side) (a : Equation) (inner : Rule) (fs : List Formed) → Lists Greater (read_from i s a) inner 0 fs → Each (IsOfFact i a) fs
  of_side i s a inner fs l = each_mapped (IsOfRule (read_from i s a)) (IsOfFact i a) (of_fact i s a) fs (of_rules (read_from i s a) inner 0 fs l)

  of_facts : (i : ℕ) (a : Equation) (j : ℕ) (b : Equation) (fs : List Formed) → AreOverlaps Greater i a j b fs → Each (IsOfFact i a) fs
  of_facts i a j b _ (next_rules {list = w} l1 (next_rules {list = x} l2 (next_rules {list = y} l3 (next_rules {list = z} l4 no_rules)))) =
      each_append (IsOfFact i a) w (x ++ (y ++ (z ++ []))) (of_side i Left a (read_from j Left b) w l1)
      (each_append (IsOfFact i a) x (y ++ (z ++ [])) (of_side i Left a (read_from j Right b) x l2)
      (each_append (IsOfFact i a) y (z ++ []) (of_side i Right a (read_from j Left b) y l3)
      (each_append (IsOfFact i a) z [] (of_side i Right a (read_from j Right b) z l4) tt)))

  module _ (facts : List Equation) where
    abbrev IsThere : Live → Type 0
    IsThere x = slice_get facts x.number ≡ Some x.equation

    abbrev IsKnown : Formed → Type 0
    IsKnown g = HasOuter facts g.overlap

    numbered_there : (n : ℕ) (es : List Equation) → ((k : ℕ) (e : Equation) → slice_get es k ≡ Some e → slice_get facts (n + k) ≡ Some e) → Each IsThere (numbered_from n es)
    numbered_there n [] h = tt
    numbered_there n (e ∷ es) h =
        let here : n + 0 ≡ n = omega arith in
        (subst (λ (k : ℕ). slice_get facts k ≡ Some e) here (h 0 e refl), numbered_there (n + 1) es (λ k x at. (let next : n + suc k ≡ n + 1 + k = omega arith in subst (λ (i : ℕ). slice_get facts i ≡ Some x) next (h (suc k) x at))))

    with_known : (outer : Live) → IsThere outer → (inners : List Live) (list : List Formed) → OverlapsWith Greater outer inners list → Each IsKnown list
    with_known outer h _ _ no_inner = tt
    with_known outer h _ _ (next_inner {inner = inner} {inners = inners} {list = list} {others = others} are rest) =
        each_append IsKnown list others (each_mapped (IsOfFact outer.number outer.equation) IsKnown (λ g o. record { outer = outer.equation; outer_is = subst (λ (k : ℕ). slice_get facts k ≡ Some outer.equation) (sym o.number_is) h; inside = o.inside }) list (of_facts outer.number outer.equation inner.number inner.equation list are)) (with_known outer h inners others rest)

    all_known : (inners outers : List Live) (list : List Formed) → Each IsThere outers → AllOverlaps Greater inners outers list → Each IsKnown list
    all_known inners _ _ h no_outer = tt
    all_known inners _ _ h (next_outer {outer = outer} {outers = outers} {list = list} {others = others} are rest) = each_append IsKnown list others (with_known outer h.0 inners list are) (all_known inners outers others h.1 rest)

    abbrev IsKnownMember : Member → Type 0
    IsKnownMember (Axiom k) = Unit {0}
    IsKnownMember (Overlap g) = IsKnown g

    axioms_known : (n : ℕ) (es : List Equation) → Each IsKnownMember (axioms_from n es)
    axioms_known n [] = tt
    axioms_known n (e ∷ es) = (tt, axioms_known (n + 1) es)

    overlaps_known : (list : List Formed) → Each IsKnown list → Each IsKnownMember (members_of list)
    overlaps_known [] h = tt
    overlaps_known (g ∷ gs) h = (h.0, overlaps_known gs h.1)

    members_known : (axioms : List Equation) (members : List Member) → AreExpected Greater facts axioms members → Each IsKnownMember members
    members_known axioms members x =
        let known = all_known (numbered facts) (numbered facts) x.overlaps (numbered_there 0 facts (λ k e at. (let z : k ≡ 0 + k = omega arith in subst (λ (i : ℕ). slice_get facts i ≡ Some e) z at))) x.are_overlaps in
        subst (Each IsKnownMember) (sym x.members_are) (each_append IsKnownMember (axioms_from 0 axioms) (members_of x.overlaps) (axioms_known 0 axioms) (overlaps_known x.overlaps known))

one_large : (a b : AnyOverlap) → certified.Large a ≡ certified.Large b → a ≡ b
one_large a b e = cc

module _ (m : Meaning) where
  tested_large : (facts axioms : List Equation) {members : List Member} {joins : List Join} {n : ℕ} {answer : Certified} (o : AnyOverlap) → answer ≡ certified.Large o → Each (IsKnownMember m.greater facts) members → AreTested m facts axioms members joins n answer → HasOuter facts o
  tested_large facts axioms o e known all_joined = absurd cc
  tested_large facts axioms o e known too_many = absurd cc
  tested_large facts axioms o e known (is_large {formed = formed} l) = subst (HasOuter facts) (one_large formed.overlap o e) known.0
  tested_large facts axioms o e known (is_missing l) = absurd cc
  tested_large facts axioms o e known (is_wrong l w) = absurd cc
  tested_large facts axioms o e known (is_right l r rest) = tested_large facts axioms o e known.1 rest

  module _ (clauses : List Sourced) (encoded : Encoded) (certificate : Certificate) where
    certified_large : (o : AnyOverlap) (answer : Certified) → answer ≡ certified.Large o → IsCertified m clauses encoded certificate answer → HasOuter certificate.text.system.facts o
    certified_large o _ e (other_symbols n) = absurd cc
    certified_large o _ e (wrong_line s f) = absurd cc
    certified_large o _ e (wrong_fact s f u) = absurd cc
    certified_large o answer e (by_joins {members = members} s f d x t) = tested_large certificate.text.system.facts encoded.axioms o e (members_known m.greater certificate.text.system.facts encoded.axioms members x) t

    -- the outer fact of an overlap that is too large
    pub large_outer : (answer : Certified) → IsCertified m clauses encoded certificate answer → (o : AnyOverlap) → answer ≡ certified.Large o → (outer : Equation) × (slice_get certificate.text.system.facts o.outer ≡ Some outer) × (o.position.0 < nodes (side_of o.outer_side outer))
    large_outer answer h o e = let p = certified_large o answer e h in (p.outer, p.outer_is, p.inside)

-- THE TEXT

module _ (table : Table) (clauses : List Sourced) (encoded : Encoded) (file text : List ℕ) where
  pub read_tested : (read : Table) (certificate : Certificate) (outcome : Certified) (r : Result Tested AllocError) → IsDistinct read → Grows table read → InternsCertificate text table read → IsReading read text (Ok certificate) → IsCertified (meaning_of read certificate.text.spec) clauses encoded certificate outcome → IfOk r (IsTestedAs certificate outcome) → IfOk r (IsTestedText table clauses encoded file text read)
  read_tested read certificate outcome (Ok (Refused answer)) d g i h c a = subst (λ (n : ℕ). CertificateTextAnswers IsRefusal table clauses encoded file text n (joined answer.lines)) (sym a.1) (is_certificate d g i h c (fails_so a.0 a.2))
  read_tested read certificate outcome (Ok (Passed passed)) d g i h c a = subst (PassesText table clauses encoded text read) (sym a.0) (record {
    distinct = d;
    grows = g;
    interns = i;
    reads = h;
    passes = subst (IsCertified (meaning_of read certificate.text.spec) clauses encoded certificate) a.1 c;
  })
  read_tested read certificate outcome (Err fault) d g i h c a = tt

  pub unread_tested : (read : Table) (why : CertFault) (answer : Answer) → IsDistinct read → IsReading read text (Err why) → (answer.status ≡ 3) × (joined answer.lines ≡ cert_fault_line file why) → (why ≡ NoMemory → ⊥) → IsTestedText table clauses encoded file text read (Refused answer)
  unread_tested read why answer d h line n = one_line (Ok answer) (CertificateTextAnswers IsRefusal table clauses encoded file text) 3 (cert_fault_line file why) line (isnt_certificate read d h n)

-- A text that is cut behind the first byte that is too many is read as the whole one.
module _ (text : List ℕ) (h : max_proof + 1 ≤ length text) where
  cut_length : length (take (max_proof + 1) text) ≡ max_proof + 1
  cut_length = length-take-le (max_proof + 1) text h

  isnt_short : {A : Type 0} → length (take (max_proof + 1) text) ≤ max_proof → A
  isnt_short le = absurd (omega (arith, cut_length))

  read_cut : (table : Table) (why : CertFault) → IsReading table (take (max_proof + 1) text) (Err why) → IsReading table text (Err why)
  read_cut table (Syntax p) r = isnt_short r.0
  read_cut table (Version p) r = isnt_short r.0
  read_cut table (UnknownRule p) r = isnt_short r.0
  read_cut table (UnknownName p) r = isnt_short r.0
  read_cut table (RepeatedName p) r = isnt_short r.0
  read_cut table (Limit what.Bytes p) r = (omega arith, r.1)
  read_cut table (Limit what.Nodes p) r = isnt_short r.0
  read_cut table (Limit what.Parentheses p) r = isnt_short r.0
  read_cut table (Limit what.Arity p) r = isnt_short r.0
  read_cut table (Limit what.Clauses p) r = isnt_short r.0
  read_cut table (Limit what.Files p) r = isnt_short r.0
  read_cut table (Limit what.Symbols p) r = isnt_short r.0
  read_cut table NoMemory r = tt

module _ (table : Table) (clauses : List Sourced) (encoded : Encoded) where
  module _ (AnswersFor : Table → Certificate → Certified → ℕ → List ℕ → Type 0) (file : List ℕ) where
    answers_cut : (text : List ℕ) → max_proof + 1 ≤ length text → {status : ℕ} {answer : List ℕ} → CertificateTextAnswers AnswersFor table clauses encoded file (take (max_proof + 1) text) status answer → CertificateTextAnswers AnswersFor table clauses encoded file text status answer
    answers_cut text h (isnt_certificate read {why = why} d r n) = isnt_certificate read d (read_cut text h read why r) n
    answers_cut text h (is_certificate d g i r c a) = isnt_short text h r.0

    whole_certificate : (text : List ℕ) (status : ℕ) (answer : List ℕ) → CertificateTextAnswers AnswersFor table clauses encoded file (take (max_proof + 1) text) status answer → CertificateTextAnswers AnswersFor table clauses encoded file text status answer
    whole_certificate text status answer a = go (leb_tells (max_proof + 1) (length text))
      where
        go : ((nat_le (max_proof + 1) (length text) ≡ true) × (max_proof + 1 ≤ length text)) ⊎ ((nat_le (max_proof + 1) (length text) ≡ false) × (length text < max_proof + 1)) → CertificateTextAnswers AnswersFor table clauses encoded file text status answer
        go (inl p) = answers_cut text p.1 a
        go (inr p) = subst (λ (t : List ℕ). CertificateTextAnswers AnswersFor table clauses encoded file t status answer) (take_all (max_proof + 1) text (omega (arith, p.1))) a

  -- a text that passes all tests isn't cut
  passes_whole : (text : List ℕ) (read : Table) (certificate : Certificate) → PassesText table clauses encoded (take (max_proof + 1) text) read certificate → PassesText table clauses encoded text read certificate
  passes_whole text read certificate p = go (leb_tells (max_proof + 1) (length text))
    where
      go : ((nat_le (max_proof + 1) (length text) ≡ true) × (max_proof + 1 ≤ length text)) ⊎ ((nat_le (max_proof + 1) (length text) ≡ false) × (length text < max_proof + 1)) → PassesText table clauses encoded text read certificate
      go (inl q) = isnt_short text q.1 p.reads.0
      go (inr q) = subst (λ (t : List ℕ). PassesText table clauses encoded t read certificate) (take_all (max_proof + 1) text (omega (arith, q.1))) p

  -- THE FILE

  passed_file : (holds : Option Files) (before now : ℕ) (file bytes : List ℕ) (read : Table) (certificate : Certificate) → IsTextFetched (max_proof + 1) holds before now file (Found bytes) → PassesText table clauses encoded bytes read certificate → PassesFile table clauses encoded holds file read certificate
  passed_file None before now file bytes read certificate h p = record { text = bytes; has_text = tt; passes_text = p }
  passed_file (Some files) before now file bytes read certificate h p = record {
    text = h.0;
    has_text = h.1;
    passes_text = passes_whole h.0 read certificate (subst (λ (t : List ℕ). PassesText table clauses encoded t read certificate) h.2 p);
  }

  pub found_tested : (holds : Option Files) (before now : ℕ) (file bytes : List ℕ) (read : Table) (r : Result Tested AllocError) → IsTextFetched (max_proof + 1) holds before now file (Found bytes) → IfOk r (IsTestedText table clauses encoded file bytes read) → IfOk r (IsTestedFile table clauses encoded holds before now file read)
  found_tested holds before now file bytes read (Ok (Refused answer)) h a = is_found_text (max_proof + 1) holds before now (CertificateTextAnswers IsRefusal table clauses encoded file) file bytes (Ok answer) (whole_certificate IsRefusal file) h a
  found_tested holds before now file bytes read (Ok (Passed certificate)) h a = passed_file holds before now file bytes read certificate h a
  found_tested holds before now file bytes read (Err fault) h a = tt

  -- a refusal of this status and line
  pub refusal_of : (holds : Option Files) (before now : ℕ) (file : List ℕ) (read : Table) (status : ℕ) (line : List ℕ) (answer : Answer) → (answer.status ≡ status) × (joined answer.lines ≡ line) → FileAnswers holds before now (CertificateTextAnswers IsRefusal table clauses encoded file) file status line → IsTestedFile table clauses encoded holds before now file read (Refused answer)
  refusal_of holds before now file read status line answer h a = one_line (Ok answer) (FileAnswers holds before now (CertificateTextAnswers IsRefusal table clauses encoded file) file) status line h a

-- THE PROBLEM

module _ (loaded table : Table) (holds : Option Files) (before now : ℕ) (problem : Problem) (file : List ℕ) where
  pub large_tested : (number : ℕ) (goal : Sourced) (read : Table) (answer : Answer) → IsEncoded table problem (Err (GoalTooLarge number)) → goal ≡ get_or problem.clauses number goal → (answer.status ≡ 3) × (joined answer.lines ≡ large_line goal) → IsTested loaded problem holds before now file read (Refused answer)
  large_tested number goal read answer h at line = one_line (Ok answer) (CertificateAnswers IsRefusal holds before now file loaded problem) 3 (large_line goal) line (has_large_goal {number = number} (h table (Grows-refl table)) (slice_get_read problem.clauses (length problem.clauses) number goal refl (large_within table problem number h) at))

  pub encoded_tested : (encoded : Encoded) (read : Table) (r : Result Tested AllocError) → IsDistinct table → AddsMarks loaded table encoded.fresh → IsEncoded table problem (Ok encoded) → IfOk r (IsTestedFile table problem.clauses encoded holds before now file read) → IfOk r (IsTested loaded problem holds before now file read)
  encoded_tested encoded read (Ok (Refused answer)) d i h a = is_encoded d i (h table (Grows-refl table)) a
  encoded_tested encoded read (Ok (Passed certificate)) d i h a = record { table = table; distinct = d; encoded = encoded; adds = i; encodes = h table (Grows-refl table); passes_file = a }
  encoded_tested encoded read (Err fault) d i h a = tt

-- THE ANSWER

module _ (AnswersFor : Table → Certificate → Certified → ℕ → List ℕ → Type 0) (holds : Option Files) (before now : ℕ) (file : List ℕ) (loaded : Table) (problem : Problem) where
  -- by a certificate that passes all tests
  pub passed_answers : (read : Table) (certificate : Certificate) (status : ℕ) (answer : List ℕ) → PassesTests loaded problem holds file read certificate → AnswersFor read certificate certified.Yes status answer → CertificateAnswers AnswersFor holds before now file loaded problem status answer
  passed_answers read certificate status answer p a =
      let q = p.passes_file.passes_text in
      is_encoded p.distinct p.adds p.encodes (is_found p.passes_file.has_text (is_certificate q.distinct q.grows q.interns q.reads q.passes a))

  -- a refusal is an answer to each command that is given a certificate, which answers so where it fails a test
  abbrev pub TellsRefusals : Type 0
  TellsRefusals = (read : Table) (certificate : Certificate) (outcome : Certified) (status : ℕ) (answer : List ℕ) → IsRefusal read certificate outcome status answer → AnswersFor read certificate outcome status answer

  module _ (tells : TellsRefusals) where
    refused_text : (table : Table) (clauses : List Sourced) (encoded : Encoded) (text : List ℕ) {status : ℕ} {answer : List ℕ} → CertificateTextAnswers IsRefusal table clauses encoded file text status answer → CertificateTextAnswers AnswersFor table clauses encoded file text status answer
    refused_text table clauses encoded text (isnt_certificate read d h n) = isnt_certificate read d h n
    refused_text table clauses encoded text (is_certificate {read = read} {certificate = certificate} {outcome = outcome} {status = status} {answer = answer} d g i h c a) = is_certificate d g i h c (tells read certificate outcome status answer a)

    refused_file : (table : Table) (clauses : List Sourced) (encoded : Encoded) {status : ℕ} {answer : List ℕ} → FileAnswers holds before now (CertificateTextAnswers IsRefusal table clauses encoded file) file status answer → FileAnswers holds before now (CertificateTextAnswers AnswersFor table clauses encoded file) file status answer
    refused_file table clauses encoded (is_absent h) = is_absent h
    refused_file table clauses encoded (isnt_fetched r) = isnt_fetched r
    refused_file table clauses encoded (is_found {text = text} h a) = is_found h (refused_text table clauses encoded text a)

    pub refused_answers : (status : ℕ) (answer : List ℕ) → CertificateAnswers IsRefusal holds before now file loaded problem status answer → CertificateAnswers AnswersFor holds before now file loaded problem status answer
    refused_answers status answer (has_large_goal m g) = has_large_goal m g
    refused_answers status answer (is_encoded {table = table} {encoded = encoded} d i e a) = is_encoded d i e (refused_file table problem.clauses encoded a)

  earlier_certificate : (first : ℕ) (status : ℕ) (answer : List ℕ) → first ≤ before → CertificateAnswers AnswersFor holds before now file loaded problem status answer → CertificateAnswers AnswersFor holds first now file loaded problem status answer
  earlier_certificate first status answer le (has_large_goal m g) = has_large_goal m g
  earlier_certificate first status answer le (is_encoded d i e a) = is_encoded d i e (earlier_file holds before now _ _ first le a)

-- the answer for a problem that is loaded, where a later part of the call read the certificate file
pub loaded_certificate : (AnswersFor : Problem → Table → Certificate → Certified → ℕ → List ℕ → Type 0) (table : Table) (holds mid : Option Files) (first before now : ℕ) (root : Option (List ℕ)) (name file : List ℕ) (problem : Problem) (r : Result Answer AllocError) → IsHeld holds root name table problem → mid ≡ holds → first ≤ before → IfOk r (λ answer. CertificateAnswers (AnswersFor problem) mid before now file table problem answer.status (joined answer.lines)) → IfOk r (λ answer. LoadAnswers holds first now (λ loaded held. CertificateAnswers (AnswersFor held) holds first now file loaded held) root name answer.status (joined answer.lines))
loaded_certificate AnswersFor table holds mid first before now root name file problem (Ok answer) h e le a = is_loaded h.distinct (held holds root name table problem h) (earlier_certificate (AnswersFor problem) holds before now file table problem first answer.status (joined answer.lines) le (subst (λ (o : Option Files). CertificateAnswers (AnswersFor problem) o before now file table problem answer.status (joined answer.lines)) e a))
loaded_certificate AnswersFor table holds mid first before now root name file problem (Err fault) h e le a = tt
