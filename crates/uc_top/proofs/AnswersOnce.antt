-- Words and files have one answer.
use Rattle.std.proofs.Common.{◌⊎◌, inl, inr, ℕ, ◌≡◌, ◌≤◌, List, [], ◌∷◌, Option, Some, sym, ◌∙◌, subst}
use Rattle.uc_edge.specs.Files.{Files}
use Rattle.uc_edge.specs.Faults.{Rose}
use Rattle.uc_problem.proofs.FreshMarks.{signature_has}
use Rattle.uc_words.specs.declared.command.Command.{Command}
use Rattle.uc_words.specs.declared.command.Verb.{Verb}
use Rattle.uc_words.specs.declared.command.Verb.TheVariants as verb
use Rattle.uc_words.specs.Reads.{Reads}
use Rattle.uc_words.specs.declared.command.OrderWords.{OrderWords}
use Rattle.uc_top.specs.declared.listing.Listing.{Listing}
use Rattle.uc_top.specs.declared.listing.Listing.TheVariants.{Directions, CriticalPairs}
use Rattle.uc_top.specs.Limits.{WeighsWithin}
use Rattle.uc_top.specs.ListAnswers.{IsListed}
use Rattle.uc_top.specs.RewriteAnswers.{IsRewritten}
use Rattle.uc_top.specs.ProveAnswers.{ProveAnswers}
use Rattle.uc_top.specs.DecideAnswers.{IsDecided}
use Rattle.uc_top.specs.Answers.{IsShown, ProblemAnswers, CheckAnswers, ShowAnswers, ListAnswers, RewriteAnswers, DecideAnswers, TableAnswers, ModelAnswers, CertifyAnswers, SystemAnswers, IsSearching, SearchesAlone, Answers}
use Rattle.uc_top.proofs.Positionals.{first_name, second_name, head_name, tail_names, only_name}
use Rattle.uc_top.specs.FileAnswers.{FileAnswers}
use Rattle.uc_top.specs.TableAnswers.{TableTextAnswers}
use Rattle.uc_top.specs.ModelAnswers.{IsModelled}
use Rattle.uc_top.specs.CertificateAnswers.{CertificateAnswers}
use Rattle.uc_top.specs.CertifyAnswers.{IsCertifiedAnswer}
use Rattle.uc_top.specs.SystemAnswers.{IsAskedCertificate}
use Rattle.uc_top.proofs.LoadedOnce.{load_once, with_premise}
use Rattle.uc_top.proofs.FileAnswering.{file_once}
use Rattle.uc_top.proofs.TabledOnce.{table_text_once}
use Rattle.uc_top.proofs.ModelledOnce.{modelled_once}
use Rattle.uc_top.proofs.CertifiedOnce.{certified_answer_once, certificate_once}
use Rattle.uc_top.proofs.SystemOnce.{asked_is_once}
use Rattle.uc_top.proofs.ListedOnce.{listed_once}
use Rattle.uc_top.proofs.RewriteOnce.{rewritten_once}
use Rattle.uc_top.proofs.CheckEnding.{check_answers_once}
use Rattle.uc_top.proofs.SearchLaws.{OneSearch}
use Rattle.uc_top.proofs.ProveOnce.{prove_answers_once}
use Rattle.uc_top.proofs.DecideOnce.{decided_once}
use Rattle.uc_top.proofs.GenOnce.{gen_once}
use Rattle.uc_top.proofs.WithinLimits.{weight_within}
use Rattle.uc_top.proofs.ByVerb.{IsUsage, OfProve, OfSearch, OfCertificate, OfDecide, by_search, by_certificate, Of, of_command, read_or_not}

-- THE COMMANDS

-- Two runs by the same files.
module _ (files : Files) (before now again later : ℕ) where
  show_once : (root : Option (List ℕ)) (name : List ℕ) {s t : ℕ} {a b : List ℕ} → (s ≡ 5 → Rose before now → ⊥) → (t ≡ 5 → Rose again later → ⊥) → ShowAnswers (Some files) before now root name s a → ShowAnswers (Some files) again later root name t b → (s ≡ t) × (a ≡ b)
  show_once root name v w x y = load_once files root name before now again later IsShown IsShown (λ table problem s t a b d l v w p q. (p.0 ∙ sym q.0, p.1 ∙ sym q.1)) v w x y

  list_once : (listing : Listing) (words : OrderWords) (root : Option (List ℕ)) (name : List ℕ) {s t : ℕ} {a b : List ℕ} → (s ≡ 5 → Rose before now → ⊥) → (t ≡ 5 → Rose again later → ⊥) → ListAnswers (Some files) before now listing words root name s a → ListAnswers (Some files) again later listing words root name t b → (s ≡ t) × (a ≡ b)
  list_once listing words root name v w x y = load_once files root name before now again later (λ table. IsListed listing table words) (λ table. IsListed listing table words) (λ table problem s t a b d l v w p q. listed_once listing table words problem p q) v w x y

  rewrite_once : (words : OrderWords) (limit : ℕ) (word : List ℕ) (root : Option (List ℕ)) (name : List ℕ) {s t : ℕ} {a b : List ℕ} → (s ≡ 5 → Rose before now → ⊥) → (t ≡ 5 → Rose again later → ⊥) → RewriteAnswers (Some files) before now words limit word root name s a → RewriteAnswers (Some files) again later words limit word root name t b → (s ≡ t) × (a ≡ b)
  rewrite_once words limit word root name v w x y = load_once files root name before now again later (λ table. IsRewritten table words limit word) (λ table. IsRewritten table words limit word) (λ table problem s t a b d l v w p q. rewritten_once table d words limit word problem (signature_has table problem l.holds.agrees) p q) v w x y

  check_once : (root : Option (List ℕ)) (name proof : List ℕ) {s t : ℕ} {a b : List ℕ} → (s ≡ 5 → Rose before now → ⊥) → (t ≡ 5 → Rose again later → ⊥) → CheckAnswers (Some files) before now root name proof s a → CheckAnswers (Some files) again later root name proof t b → (s ≡ t) × (a ≡ b)
  check_once root name proof v w x y = load_once files root name before now again later (ProblemAnswers (Some files) before now proof) (ProblemAnswers (Some files) again later proof) (λ table problem s t a b d l v w p q. check_answers_once files root name table problem l before now again later proof v w p q) v w x y

  table_once : (root : Option (List ℕ)) (name file : List ℕ) {s t : ℕ} {a b : List ℕ} → (s ≡ 5 → Rose before now → ⊥) → (t ≡ 5 → Rose again later → ⊥) → TableAnswers (Some files) before now root name file s a → TableAnswers (Some files) again later root name file t b → (s ≡ t) × (a ≡ b)
  table_once root name file v w x y = load_once files root name before now again later (λ symbols problem. FileAnswers (Some files) before now (TableTextAnswers symbols problem file) file) (λ symbols problem. FileAnswers (Some files) again later (TableTextAnswers symbols problem file) file) (λ symbols problem s t a b d l v w p q. file_once files before now again later (TableTextAnswers symbols problem file) file (λ text i j c d m n. table_text_once symbols problem file text m n) v w p q) v w x y

  model_once : (k : Command) (name : List ℕ) {s t : ℕ} {a b : List ℕ} → (s ≡ 5 → Rose before now → ⊥) → (t ≡ 5 → Rose again later → ⊥) → ModelAnswers (Some files) before now k name s a → ModelAnswers (Some files) again later k name t b → (s ≡ t) × (a ≡ b)
  model_once k name v w x y = load_once files k.root name before now again later (λ symbols. IsModelled symbols k name) (λ symbols. IsModelled symbols k name) (λ symbols problem s t a b d l v w p q. modelled_once symbols k name problem p q) v w x y

  certify_once : (root : Option (List ℕ)) (name file : List ℕ) {s t : ℕ} {a b : List ℕ} → (s ≡ 5 → Rose before now → ⊥) → (t ≡ 5 → Rose again later → ⊥) → CertifyAnswers (Some files) before now root name file s a → CertifyAnswers (Some files) again later root name file t b → (s ≡ t) × (a ≡ b)
  certify_once root name file v w x y = load_once files root name before now again later (CertificateAnswers IsCertifiedAnswer (Some files) before now file) (CertificateAnswers IsCertifiedAnswer (Some files) again later file) (λ table problem s t a b d l v w p q. certificate_once files root name table problem l IsCertifiedAnswer (λ read certificate outcome s t a b e g m n. certified_answer_once read certificate outcome m n) before now again later file v w p q) v w x y

  pub system_once : (steps : ℕ) (questions : List (List ℕ)) (file : List ℕ) (root : Option (List ℕ)) (name : List ℕ) {s t : ℕ} {a b : List ℕ} → (s ≡ 5 → Rose before now → ⊥) → (t ≡ 5 → Rose again later → ⊥) → SystemAnswers (Some files) before now steps questions file root name s a → SystemAnswers (Some files) again later steps questions file root name t b → (s ≡ t) × (a ≡ b)
  system_once steps questions file root name v w x y = load_once files root name before now again later (λ table problem. CertificateAnswers (IsAskedCertificate steps questions problem) (Some files) before now file table problem) (λ table problem. CertificateAnswers (IsAskedCertificate steps questions problem) (Some files) again later file table problem) (λ table problem s t a b d l v w p q. certificate_once files root name table problem l (IsAskedCertificate steps questions problem) (asked_is_once steps questions problem table l.holds.agrees) before now again later file v w p q) v w x y

  -- There is one search; and a variable's weight is within its limits.
  module _ (one_search : OneSearch) where
    usage_once : {s t : ℕ} {a b : List ℕ} → IsUsage (Some files) before now s a → IsUsage (Some files) again later t b → (s ≡ t) × (a ≡ b)
    usage_once x y = (x.0 ∙ sym y.0, x.1 ∙ sym y.1)

    decide_once : (k : Command) → WeighsWithin k.order → (name : List ℕ) (questions : List (List ℕ)) {s t : ℕ} {a b : List ℕ} → (s ≤ 2 → k.workers ≡ 1) → (s ≡ 5 → Rose before now → ⊥) → (t ≡ 5 → Rose again later → ⊥) → DecideAnswers (Some files) before now k name questions s a → DecideAnswers (Some files) again later k name questions t b → (s ≡ t) × (a ≡ b)
    decide_once k within name questions alone v w x y = load_once files k.root name before now again later (λ table problem status text. (status ≤ 2 → k.workers ≡ 1) × IsDecided table k name questions problem status text) (λ table. IsDecided table k name questions) (λ table problem s t a b d l v w p q. decided_once one_search table d k within.0 within.1 name questions problem l.holds.agrees p.0 p.1 q) v w (with_premise files k.root name before now (λ table. IsDecided table k name questions) (λ status. status ≤ 2 → k.workers ≡ 1) alone x) y

    prove_command_once : (k : Command) → WeighsWithin k.order → {s t : ℕ} {a b : List ℕ} → (s ≤ 2 → k.workers ≡ 1) → (s ≡ 5 → Rose before now → ⊥) → (t ≡ 5 → Rose again later → ⊥) → OfProve (Some files) before now k s a → OfProve (Some files) again later k t b → (s ≡ t) × (a ≡ b)
    prove_command_once k within {t = t} {b = b} alone v w (name, p, x) (named, q, y) = prove_answers_once one_search k within.0 within.1 name files before now again later alone v w x (subst (λ n. ProveAnswers k n (Some files) again later t b) (only_name (sym q ∙ p)) y)

    searched_once : (k : Command) → WeighsWithin k.order → {s t : ℕ} {a b : List ℕ} → (s ≤ 2 → k.workers ≡ 1) → (s ≡ 5 → Rose before now → ⊥) → (t ≡ 5 → Rose again later → ⊥) → OfSearch (Some files) before now k s a → OfSearch (Some files) again later k t b → (s ≡ t) × (a ≡ b)
    searched_once k within {t = t} {b = b} alone v w (name, questions, p, x) (named, asked, q, y) =
        let names : named ∷ asked ≡ name ∷ questions = sym q ∙ p in
        decide_once k within name questions alone v w x (subst (λ n. DecideAnswers (Some files) again later k n questions t b) (head_name names) (subst (λ qs. DecideAnswers (Some files) again later k named qs t b) (tail_names names) y))

    by_certificate_once : (k : Command) (file : List ℕ) {s t : ℕ} {a b : List ℕ} → (s ≡ 5 → Rose before now → ⊥) → (t ≡ 5 → Rose again later → ⊥) → OfCertificate (Some files) before now k file s a → OfCertificate (Some files) again later k file t b → (s ≡ t) × (a ≡ b)
    by_certificate_once k file {t = t} {b = b} v w (name, questions, p, x) (named, asked, q, y) =
        let names : named ∷ asked ≡ name ∷ questions = sym q ∙ p in
        system_once k.steps questions file k.root name v w x (subst (λ n. SystemAnswers (Some files) again later k.steps questions file k.root n t b) (head_name names) (subst (λ qs. SystemAnswers (Some files) again later k.steps qs file k.root named t b) (tail_names names) y))

    decide_command_once : (k : Command) → WeighsWithin k.order → {s t : ℕ} {a b : List ℕ} → (s ≤ 2 → IsSearching verb.Decide k.system → k.workers ≡ 1) → (s ≡ 5 → Rose before now → ⊥) → (t ≡ 5 → Rose again later → ⊥) → OfDecide (Some files) before now k s a → OfDecide (Some files) again later k t b → (s ≡ t) × (a ≡ b)
    decide_command_once k within alone v w (inl x) y = searched_once k within (λ few. alone few (subst (IsSearching verb.Decide) (sym x.0) tt)) v w x.1 (by_search (Some files) again later k x.0 y)
    decide_command_once k within alone v w (inr x) y = by_certificate_once k x.0 v w x.2 (by_certificate (Some files) again later k x.0 x.1 y)

    verb_once : (u : Verb) (k : Command) → WeighsWithin k.order → {s t : ℕ} {a b : List ℕ} → (s ≤ 2 → IsSearching u k.system → k.workers ≡ 1) → (s ≡ 5 → Rose before now → ⊥) → (t ≡ 5 → Rose again later → ⊥) → Of (Some files) before now u k s a → Of (Some files) again later u k t b → (s ≡ t) × (a ≡ b)
    verb_once verb.Check k within {t = t} {b = b} alone v w (name, proof, p, x) (named, proved, q, y) =
        let names : named ∷ proved ∷ [] ≡ name ∷ proof ∷ [] = sym q ∙ p in
        check_once k.root name proof v w x (subst (λ n. CheckAnswers (Some files) again later k.root n proof t b) (first_name names) (subst (λ n. CheckAnswers (Some files) again later k.root named n t b) (second_name names) y))
    verb_once verb.Show k within {t = t} {b = b} alone v w (name, p, x) (named, q, y) = show_once k.root name v w x (subst (λ n. ShowAnswers (Some files) again later k.root n t b) (only_name (sym q ∙ p)) y)
    verb_once verb.Order k within {t = t} {b = b} alone v w (name, p, x) (named, q, y) = list_once Directions k.order k.root name v w x (subst (λ n. ListAnswers (Some files) again later Directions k.order k.root n t b) (only_name (sym q ∙ p)) y)
    verb_once verb.Prove k within alone v w x y = prove_command_once k within (λ few. alone few tt) v w x y
    verb_once verb.Decide k within alone v w x y = decide_command_once k within alone v w x y
    verb_once verb.Rewrite k within {t = t} {b = b} alone v w (name, word, p, x) (named, other, q, y) =
        let names : named ∷ other ∷ [] ≡ name ∷ word ∷ [] = sym q ∙ p in
        rewrite_once k.order k.limit word k.root name v w x (subst (λ n. RewriteAnswers (Some files) again later k.order k.limit word k.root n t b) (first_name names) (subst (λ u. RewriteAnswers (Some files) again later k.order k.limit u k.root named t b) (second_name names) y))
    verb_once verb.Pairs k within {t = t} {b = b} alone v w (name, p, x) (named, q, y) = list_once CriticalPairs k.order k.root name v w x (subst (λ n. ListAnswers (Some files) again later CriticalPairs k.order k.root n t b) (only_name (sym q ∙ p)) y)
    verb_once verb.Gen k within alone v w x y = gen_once one_search k (λ few. alone few tt) x y
    verb_once verb.Table k within {t = t} {b = b} alone v w (name, file, p, x) (named, other, q, y) =
        let names : named ∷ other ∷ [] ≡ name ∷ file ∷ [] = sym q ∙ p in
        table_once k.root name file v w x (subst (λ n. TableAnswers (Some files) again later k.root n file t b) (first_name names) (subst (λ n. TableAnswers (Some files) again later k.root named n t b) (second_name names) y))
    verb_once verb.Certify k within {t = t} {b = b} alone v w (name, file, p, x) (named, other, q, y) =
        let names : named ∷ other ∷ [] ≡ name ∷ file ∷ [] = sym q ∙ p in
        certify_once k.root name file v w x (subst (λ n. CertifyAnswers (Some files) again later k.root n file t b) (first_name names) (subst (λ n. CertifyAnswers (Some files) again later k.root named n t b) (second_name names) y))
    verb_once verb.Model k within {t = t} {b = b} alone v w (name, p, x) (named, q, y) = model_once k name v w x (subst (λ n. ModelAnswers (Some files) again later k n t b) (only_name (sym q ∙ p)) y)

    module _ (words : List (List ℕ)) where
      abbrev Either : ℕ → ℕ → ℕ → List ℕ → Type 0
      Either first last status text = ((command : Command) × Reads words command) ⊎ (((command : Command) → Reads words command → ⊥) × IsUsage (Some files) first last status text)

      pub answer_once : {s t : ℕ} {a b : List ℕ} → (s ≤ 2 → SearchesAlone words) → (s ≡ 5 → Rose before now → ⊥) → (t ≡ 5 → Rose again later → ⊥) → Answers (Some files) before now words s a → Answers (Some files) again later words t b → (s ≡ t) × (a ≡ b)
      answer_once {s} {t} {a} {b} alone v w x y = go (read_or_not (Some files) before now words s a x) (read_or_not (Some files) again later words t b y)
        where
          go : Either before now s a → Either again later t b → (s ≡ t) × (a ≡ b)
          go (inl p) q = verb_once p.0.verb p.0 (weight_within words p.0 p.1) (λ few. alone few p.0 p.1) v w (of_command (Some files) before now words p.1 x) (of_command (Some files) again later words p.1 y)
          go (inr p) (inl q) = absurd (p.0 q.0 q.1)
          go (inr p) (inr q) = usage_once p.1 q.1
