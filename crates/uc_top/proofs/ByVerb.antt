-- An answer to words is the answer to the command that they are.
use Rattle.std.proofs.Common.{◌⊎◌, inl, inr, ℕ, ◌≡◌, List, [], ◌∷◌, Option, Some, None, refl, sym, subst}
use Rattle.uc_edge.specs.Files.{Files}
use Rattle.uc_words.specs.declared.command.Command.{Command}
use Rattle.uc_words.specs.declared.command.Verb.{Verb}
use Rattle.uc_words.specs.declared.command.Verb.TheVariants as verb
use Rattle.uc_words.specs.Reads.{Reads}
use Rattle.uc_words.proofs.Only.{only}
use Rattle.uc_problem.proofs.Outcomes.{some_once, some_or_none}
use Rattle.uc_answer.specs.Lines.{usage_line}
use Rattle.uc_top.specs.declared.listing.Listing.TheVariants.{Directions, CriticalPairs}
use Rattle.uc_top.specs.Answers.{CheckAnswers, ShowAnswers, ListAnswers, RewriteAnswers, DecideAnswers, TableAnswers, ModelAnswers, CertifyAnswers, SystemAnswers, Answers, has_no_reading, checks, shows, orders, rewrites, pairs_up, proves, decides, decides_by_certificate, tables, models, certifies, generates}
use Rattle.uc_top.specs.ProveAnswers.{ProveAnswers}
use Rattle.uc_top.specs.GenAnswers.{GenAnswers}

module _ (holds : Option Files) (before now : ℕ) where
  abbrev pub IsUsage : ℕ → List ℕ → Type 0
  IsUsage status text = (status ≡ 4) × (text ≡ usage_line)

  abbrev pub OfProve : Command → ℕ → List ℕ → Type 0
  OfProve k status text = (name : List ℕ) × (k.positionals ≡ name ∷ []) × ProveAnswers k name holds before now status text

  -- by a search
  abbrev pub OfSearch : Command → ℕ → List ℕ → Type 0
  OfSearch k status text = (name : List ℕ) × (questions : List (List ℕ)) × (k.positionals ≡ name ∷ questions) × DecideAnswers holds before now k name questions status text

  -- by the certificate file of this name
  abbrev pub OfCertificate : Command → List ℕ → ℕ → List ℕ → Type 0
  OfCertificate k file status text = (name : List ℕ) × (questions : List (List ℕ)) × (k.positionals ≡ name ∷ questions) × SystemAnswers holds before now k.steps questions file k.root name status text

  abbrev pub OfDecide : Command → ℕ → List ℕ → Type 0
  OfDecide k status text = ((k.system ≡ None) × OfSearch k status text) ⊎ ((file : List ℕ) × (k.system ≡ Some file) × OfCertificate k file status text)

  pub by_search : (k : Command) {status : ℕ} {text : List ℕ} → k.system ≡ None → OfDecide k status text → OfSearch k status text
  by_search k none (inl x) = x.1
  by_search k none (inr x) = absurd (some_or_none x.1 none)

  pub by_certificate : (k : Command) (file : List ℕ) {status : ℕ} {text : List ℕ} → k.system ≡ Some file → OfDecide k status text → OfCertificate k file status text
  by_certificate k file given (inl x) = absurd (some_or_none given x.0)
  by_certificate k file {status} {text} given (inr x) = subst (λ (f : List ℕ). OfCertificate k f status text) (some_once x.1 given) x.2

  -- the command's answer
  abbrev pub Of : Verb → Command → ℕ → List ℕ → Type 0
  Of verb.Check k status text = (name : List ℕ) × (proof : List ℕ) × (k.positionals ≡ name ∷ proof ∷ []) × CheckAnswers holds before now k.root name proof status text
  Of verb.Show k status text = (name : List ℕ) × (k.positionals ≡ name ∷ []) × ShowAnswers holds before now k.root name status text
  Of verb.Order k status text = (name : List ℕ) × (k.positionals ≡ name ∷ []) × ListAnswers holds before now Directions k.order k.root name status text
  Of verb.Prove k status text = OfProve k status text
  Of verb.Decide k status text = OfDecide k status text
  Of verb.Rewrite k status text = (name : List ℕ) × (word : List ℕ) × (k.positionals ≡ name ∷ word ∷ []) × RewriteAnswers holds before now k.order k.limit word k.root name status text
  Of verb.Pairs k status text = (name : List ℕ) × (k.positionals ≡ name ∷ []) × ListAnswers holds before now CriticalPairs k.order k.root name status text
  Of verb.Gen k status text = GenAnswers k status text
  Of verb.Table k status text = (name : List ℕ) × (file : List ℕ) × (k.positionals ≡ name ∷ file ∷ []) × TableAnswers holds before now k.root name file status text
  Of verb.Certify k status text = (name : List ℕ) × (file : List ℕ) × (k.positionals ≡ name ∷ file ∷ []) × CertifyAnswers holds before now k.root name file status text
  Of verb.Model k status text = (name : List ℕ) × (k.positionals ≡ name ∷ []) × ModelAnswers holds before now k name status text

  module _ (words : List (List ℕ)) where
    -- the answer of a command that the words are, which is the only one
    of_other : {command other : Command} (v : Verb) (status : ℕ) (text : List ℕ) → Reads words command → Reads words other → other.verb ≡ v → Of v other status text → Of command.verb command status text
    of_other {command} {other} v status text x y e a = subst (λ (k : Command). Of k.verb k status text) (only words other command y x) (subst (λ w. Of w other status text) (sym e) a)

    pub of_command : {command : Command} {status : ℕ} {text : List ℕ} → Reads words command → Answers holds before now words status text → Of command.verb command status text
    of_command {command} x (has_no_reading n) = absurd (n command x)
    of_command {status = status} {text = text} x (checks {name = name} {proof = proof} y v p a) = of_other verb.Check status text x y v (name, proof, p, a)
    of_command {status = status} {text = text} x (shows {name = name} y v p a) = of_other verb.Show status text x y v (name, p, a)
    of_command {status = status} {text = text} x (orders {name = name} y v p a) = of_other verb.Order status text x y v (name, p, a)
    of_command {status = status} {text = text} x (rewrites {name = name} {word = word} y v p a) = of_other verb.Rewrite status text x y v (name, word, p, a)
    of_command {status = status} {text = text} x (pairs_up {name = name} y v p a) = of_other verb.Pairs status text x y v (name, p, a)
    of_command {status = status} {text = text} x (proves {name = name} y v p a) = of_other verb.Prove status text x y v (name, p, a)
    of_command {status = status} {text = text} x (tables {name = name} {file = file} y v p a) = of_other verb.Table status text x y v (name, file, p, a)
    of_command {status = status} {text = text} x (models {name = name} y v p a) = of_other verb.Model status text x y v (name, p, a)
    of_command {status = status} {text = text} x (certifies {name = name} {file = file} y v p a) = of_other verb.Certify status text x y v (name, file, p, a)
    of_command {status = status} {text = text} x (generates y v a) = of_other verb.Gen status text x y v a
    of_command {status = status} {text = text} x (decides {name = name} {questions = questions} y v n p a) = of_other verb.Decide status text x y v (inl (n, (name, questions, p, a)))
    of_command {status = status} {text = text} x (decides_by_certificate {name = name} {file = file} {questions = questions} y v g p a) = of_other verb.Decide status text x y v (inr (file, g, (name, questions, p, a)))

    -- the same by the command's verb
    pub of_verb : {command : Command} {status : ℕ} {text : List ℕ} (v : Verb) → command.verb ≡ v → Reads words command → Answers holds before now words status text → Of v command status text
    of_verb {command} {status} {text} v e x a = subst (λ w. Of w command status text) e (of_command x a)

    -- whether the words are a command
    pub read_or_not : (status : ℕ) (text : List ℕ) → Answers holds before now words status text → ((command : Command) × Reads words command) ⊎ (((command : Command) → Reads words command → ⊥) × IsUsage status text)
    read_or_not status text (has_no_reading n) = inr (n, (refl, refl))
    read_or_not status text (checks {command = other} y v p a) = inl (other, y)
    read_or_not status text (shows {command = other} y v p a) = inl (other, y)
    read_or_not status text (orders {command = other} y v p a) = inl (other, y)
    read_or_not status text (rewrites {command = other} y v p a) = inl (other, y)
    read_or_not status text (pairs_up {command = other} y v p a) = inl (other, y)
    read_or_not status text (proves {command = other} y v p a) = inl (other, y)
    read_or_not status text (decides {command = other} y v n p a) = inl (other, y)
    read_or_not status text (decides_by_certificate {command = other} y v g p a) = inl (other, y)
    read_or_not status text (tables {command = other} y v p a) = inl (other, y)
    read_or_not status text (models {command = other} y v p a) = inl (other, y)
    read_or_not status text (certifies {command = other} y v p a) = inl (other, y)
    read_or_not status text (generates {command = other} y v a) = inl (other, y)
