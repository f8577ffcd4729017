-- The grammar of a script: a case for each of its lines, and what may begin one.
use Rattle.std.specs.Prelude.{◌≡◌, ◌≤◌, ◌-◌, ℕ, zero, suc, ℤ, pos, negsuc, Bool, true, false, List, [], ◌∷◌, ◌++◌, count_by, None}
use Rattle.pvs_syntax.specs.declared.unit.Proof.{Proof}
use Rattle.pvs_script.specs.declared.lexeme.Lexeme.{Lexeme}
use Rattle.pvs_script.specs.declared.lexeme.Sort.{Sort}
use Rattle.pvs_script.specs.declared.lexeme.Sort.TheVariants as sort
use Rattle.pvs_script.specs.declared.tree.Rule.TheVariants as rule
use Rattle.pvs_script.specs.declared.tree.Step.{Step}
use Rattle.pvs_script.specs.declared.tree.Script.{Script}
use Rattle.pvs_script.specs.declared.tree.Script.TheViews.{roll-Script}
use Rattle.pvs_script.specs.Tokens.{script_tokens, lexemes}

-- a token of this sort
abbrev pub Is : Sort → Lexeme → Type 0
Is s t = t.sort ≡ s

-- ---- What tokens are a step, or a script.

-- the number of an antecedent
abbrev pub antecedent_number : ℕ → ℤ
antecedent_number zero = pos 0
antecedent_number (suc n) = negsuc n

pub data DerivesStep : List Lexeme → Step → Type 0 where
  -- step = "(" axiom ")"
  axiom_rule : (t u v : Lexeme) → Is sort.Open t → Is sort.Axiom u → Is sort.Close v
      → DerivesStep (t ∷ u ∷ v ∷ []) (record { rule = rule.Axiom; pos = t.pos })
  -- step = "(" if number ")"
  if_consequent : (t u v w : Lexeme) → Is sort.Open t → Is sort.If u → Is sort.Number v → Is sort.Close w
      → DerivesStep (t ∷ u ∷ v ∷ w ∷ []) (record { rule = rule.If (pos v.number); pos = t.pos })
  -- step = "(" if "-" number ")"
  if_antecedent : (t u v w x : Lexeme) → Is sort.Open t → Is sort.If u → Is sort.Minus v → Is sort.Number w → Is sort.Close x
      → DerivesStep (t ∷ u ∷ v ∷ w ∷ x ∷ []) (record { rule = rule.If (antecedent_number w.number); pos = t.pos })

-- step { step }
pub data DerivesSteps : List Lexeme → List Step → Type 0 where
  one : (ts : List Lexeme) (s : Step) → DerivesStep ts s → DerivesSteps ts (s ∷ [])
  more : (ts us : List Lexeme) (ss : List Step) (s : Step) → DerivesSteps ts ss → DerivesStep us s → DerivesSteps (ts ++ us) (ss ++ s ∷ [])

mutual
  -- script = "(" step { step } { script } ")"
  pub data DerivesScript : List Lexeme → Script → Type 0 where
    script : (ts us : List Lexeme) (ss : List Step) (xs : List Script) (t u : Lexeme) → Is sort.Open t → DerivesSteps ts ss → DerivesScripts us xs
        → Is sort.Close u → DerivesScript (t ∷ (ts ++ (us ++ u ∷ []))) (roll-Script (record { steps = ss; trees = xs }))

  -- { script }
  pub data DerivesScripts : List Lexeme → List Script → Type 0 where
    none : DerivesScripts [] []
    more : (ts us : List Lexeme) (xs : List Script) (x : Script) → DerivesScripts ts xs → DerivesScript us x → DerivesScripts (ts ++ us) (xs ++ x ∷ [])

-- ---- What may begin a step, or a script: whole parts in order, and then what begins the next part.

pub data BeginsStep : List Lexeme → Type 0 where
  nothing : BeginsStep []
  opened : (t : Lexeme) → Is sort.Open t → BeginsStep (t ∷ [])
  axiom_word : (t u : Lexeme) → Is sort.Open t → Is sort.Axiom u → BeginsStep (t ∷ u ∷ [])
  if_word : (t u : Lexeme) → Is sort.Open t → Is sort.If u → BeginsStep (t ∷ u ∷ [])
  consequent : (t u v : Lexeme) → Is sort.Open t → Is sort.If u → Is sort.Number v → BeginsStep (t ∷ u ∷ v ∷ [])
  minus : (t u v : Lexeme) → Is sort.Open t → Is sort.If u → Is sort.Minus v → BeginsStep (t ∷ u ∷ v ∷ [])
  antecedent : (t u v w : Lexeme) → Is sort.Open t → Is sort.If u → Is sort.Minus v → Is sort.Number w → BeginsStep (t ∷ u ∷ v ∷ w ∷ [])
  closed : (ts : List Lexeme) (s : Step) → DerivesStep ts s → BeginsStep ts

pub data BeginsScript : List Lexeme → Type 0 where
  nothing : BeginsScript []
  -- in the first step
  first : (ts : List Lexeme) (t : Lexeme) → Is sort.Open t → BeginsStep ts → BeginsScript (t ∷ ts)
  -- in a step after others
  step : (ts us : List Lexeme) (ss : List Step) (t : Lexeme) → Is sort.Open t → DerivesSteps ts ss → BeginsStep us → BeginsScript (t ∷ (ts ++ us))
  -- in a script after the steps, and maybe after others
  tree : (ts us vs : List Lexeme) (ss : List Step) (xs : List Script) (t : Lexeme) → Is sort.Open t → DerivesSteps ts ss → DerivesScripts us xs
      → BeginsScript vs → BeginsScript (t ∷ (ts ++ (us ++ vs)))
  closed : (ts : List Lexeme) (x : Script) → DerivesScript ts x → BeginsScript ts

-- ---- How deep tokens nest.

abbrev pub opens : Sort → Bool
opens sort.Open = true
opens _ = false

abbrev pub closes : Sort → Bool
closes sort.Close = true
closes _ = false

-- how many parentheses are open after the tokens
abbrev pub level : List Lexeme → ℕ
level ts = count_by (λ t. opens t.sort) ts - count_by (λ t. closes t.sort) ts

-- after no token more than 200 parentheses are open
abbrev pub IsShallow : List Lexeme → Type 0
IsShallow ts = (us vs : List Lexeme) → ts ≡ us ++ vs → level us ≤ 200

-- ---- The script of a proof.

-- The tokens of the span have no lexical fault, are the script, and nest at most 200 levels deep.
pub record IsScript (text : List ℕ) (proof : Proof) (x : Script) : Type 0 where
  pub faultless : (script_tokens text proof).fault ≡ None
  pub derives : DerivesScript (lexemes text proof) x
  pub shallow : IsShallow (lexemes text proof)
