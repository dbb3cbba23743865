-- The names that calls of a directory touch, one behind the other.
use Rattle.std.proofs.Common.{◌≡◌, ℕ, Bool, true, false, Option, Some, ap, subst, true≢false, ◌∙◌, arith}
use Rattle.std.specs.Prelude.{IfSome}
use Rattle.data_directory.specs.declared.names.Name.{Name}
use Rattle.data_directory.specs.declared.names.Name.TheVariants.{Snapshot, Journal, Making}
use Rattle.data_directory.specs.Directories.{DirectoryState, IsThere, KeepsOthers, KeepsCertain}

-- ---- names are apart

abbrev kind_of : Name → ℕ
kind_of (Snapshot n) = 0
kind_of (Journal n) = 1
kind_of Making = 2

pub snapshot_no_journal : (m n : ℕ) → Snapshot m ≡ Journal n → ⊥
snapshot_no_journal m n same = let kinds : 0 ≡ 1 = ap kind_of same in absurd (omega (arith, kinds))

pub snapshot_not_making : (m : ℕ) → Snapshot m ≡ Making → ⊥
snapshot_not_making m same = let kinds : 0 ≡ 2 = ap kind_of same in absurd (omega (arith, kinds))

pub journal_not_making : (m : ℕ) → Journal m ≡ Making → ⊥
journal_not_making m same = let kinds : 1 ≡ 2 = ap kind_of same in absurd (omega (arith, kinds))

abbrev number_of : Name → ℕ
number_of (Snapshot n) = n
number_of (Journal n) = n
number_of Making = 0

pub same_snapshot : (m n : ℕ) → Snapshot m ≡ Snapshot n → m ≡ n
same_snapshot m n same = ap number_of same

pub same_journal : (m n : ℕ) → Journal m ≡ Journal n → m ≡ n
same_journal m n same = ap number_of same

-- ---- one call behind the other

module _ (P R : Name → Type 0) (a b : DirectoryState) (only : (n : Name) → P n → R n) where
  pub others_wider : KeepsOthers P a b → KeepsOthers R a b
  others_wider keeps = record { there = λ name apart. keeps.there name (λ t. apart (only name t)); bytes = λ number apart. keeps.bytes number (λ t. apart (only (Snapshot number) t)); whole = λ name apart. keeps.whole name (λ t. apart (only name t)); making = λ apart. keeps.making (λ t. apart (only Making t)) }

  pub certain_wider : KeepsCertain P a b → KeepsCertain R a b
  certain_wider keeps name apart = keeps name (λ t. apart (only name t))

  pub others_then : (Q : Name → Type 0) (c : DirectoryState) → ((n : Name) → Q n → R n) → KeepsOthers P a b → KeepsOthers Q b c → KeepsOthers R a c
  others_then Q c later first others = record {
    there = λ name apart. others.there name (λ t. apart (later name t)) ∙ first.there name (λ t. apart (only name t));
    bytes = λ number apart. others.bytes number (λ t. apart (later (Snapshot number) t)) ∙ first.bytes number (λ t. apart (only (Snapshot number) t));
    whole = λ name apart. others.whole name (λ t. apart (later name t)) ∙ first.whole name (λ t. apart (only name t));
    making = λ apart. others.making (λ t. apart (later Making t)) ∙ first.making (λ t. apart (only Making t));
  }

pub others_same : (R : Name → Type 0) (a b : DirectoryState) → b ≡ a → KeepsOthers R a b
others_same R a b same = record { there = λ name apart. ap (λ (d : DirectoryState). d.there name) same; bytes = λ number apart. ap (λ (d : DirectoryState). d.bytes number) same; whole = λ name apart. ap (λ (d : DirectoryState). d.whole name) same; making = λ apart. ap (λ (d : DirectoryState). d.making) same }

-- ---- one name

-- a name at which nothing stands has no file to lose
pub none_to_lose : (d : DirectoryState) (name : Name) {P : Type 0} → IsThere d name false → d.there name ≡ Some true → P
none_to_lose d name absent there = absurd (true≢false (subst (λ (o : Option Bool). IfSome o (λ known. known ≡ false)) there absent))
