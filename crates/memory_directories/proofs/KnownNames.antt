-- The list of all names of a directory, by a loop over the changes of them.
use Rattle.std.proofs.Common.{◌≡◌, ℕ, ◌+◌, ◌<◌, Bool, true, false, not, ◌&&◌, List, [], ◌∷◌, ◌++◌, length, take, get_or, Option, None, Some, refl, sym, ap, ◌∙◌, inl, inr}
use Rattle.std.specs.Prelude.{◌⊎◌, Contains}
use Rattle.std.proofs.lemmas.Bool.{eqb-true, or_cases, false≢true}
use Rattle.std.proofs.lemmas.List.{take_more}
use Rattle.std.proofs.lemmas.List.Sums.{fold-append}
use Rattle.data_directory.specs.declared.names.Name.{Name}
use Rattle.data_directory.specs.declared.names.Name.TheVariants.{Snapshot, Journal, Making}
use Rattle.memory_directories.specs.KnownNames.{is_name, has_name, there_after, is_there_by}

same_name : (a b : Name) → is_name a b ≡ true → a ≡ b
same_name (Snapshot number) (Snapshot other) same = ap Snapshot (eqb-true number other same)
same_name (Journal number) (Journal other) same = ap Journal (eqb-true number other same)
same_name Making Making same = refl
same_name _ _ same = absurd (false≢true same)

had_name : (name : Name) (o : Option Name) → has_name name o ≡ true → o ≡ Some name
had_name name None had = absurd (false≢true had)
had_name name (Some other) had = ap (λ (n : Name). Some n) (sym (same_name name other had))

before_true : (b before : Bool) → (not b && before) ≡ true → before ≡ true
before_true true before is = absurd (false≢true is)
before_true false before is = is

module _ {C : Type 0} (gone named : C → Option Name) where
  step : (xs : List C) (i : ℕ) (c : C) (name : Name) → i < length xs → c ≡ get_or xs i c
      → is_there_by (take (i + 1) xs) gone named name ≡ there_after name (gone c) (named c) (is_there_by (take i xs) gone named name)
  step xs i c name lt is =
      ap (λ (l : List C). is_there_by l gone named name) (take_more xs i c lt ∙ ap (λ (x : C). take i xs ++ x ∷ []) (sym is))
      ∙ fold-append (λ (before : Bool) (change : C). there_after name (gone change) (named change) before) false (take i xs) (c ∷ [])

  -- the names that are there, of those that the first changes gave, are on a list; so are those that one change more gave
  pub list_more : (xs : List C) (i : ℕ) (c : C) (old new : List Name) → i < length xs → c ≡ get_or xs i c
      → ((name : Name) → is_there_by xs gone named name ≡ true → is_there_by (take i xs) gone named name ≡ true → Contains old name)
      → ((name : Name) → Contains old name → Contains new name)
      → ((name : Name) → named c ≡ Some name → is_there_by xs gone named name ≡ true → Contains new name)
      → (name : Name) → is_there_by xs gone named name ≡ true → is_there_by (take (i + 1) xs) gone named name ≡ true → Contains new name
  list_more xs i c old new lt is before keep here name there now =
      by (or_cases (has_name name (named c)) (not (has_name name (gone c)) && is_there_by (take i xs) gone named name) (sym (step xs i c name lt is) ∙ now))
    where
      by : (has_name name (named c) ≡ true) ⊎ ((not (has_name name (gone c)) && is_there_by (take i xs) gone named name) ≡ true) → Contains new name
      by (inl had) = here name (had_name name (named c) had) there
      by (inr was) = keep name (before name there (before_true (has_name name (gone c)) (is_there_by (take i xs) gone named name) was))
