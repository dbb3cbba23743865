-- A version is told of exactly where a request of the table has it: each row of the list is a request's, and each request of
-- Kafka's own has its row.
use Rattle.std.proofs.Common.{◌≡◌, ◌⊎◌, inl, inr, ℤ, Bool, true, false, List, [], ◌∷◌, refl, sym, subst, ◌∙◌, arith}
use Rattle.std.specs.Prelude.{◌<ℤ◌, ◌↔◌, ◌&&◌, ◌||◌, int_le, map}
use Rattle.std.specs.List.{AllByRecursion}
use Rattle.std.specs.Ordering.{int_eq}
use Rattle.std.proofs.lemmas.Int.{ints}
use Rattle.request_frames.specs.declared.api.Api.{Api}
use Rattle.request_frames.specs.Apis.{api_key, api_version, listed_apis, first_own_key, HasApi}
use Rattle.setup_requests.specs.ApiVersions.{version_range, listed_ranges, lists, AreRising}

-- a row, or a later one
row : (k v key version : ℤ) (others : Bool) → (int_eq k key && (int_le v version && int_le version v)) || others ≡ true → ((key ≡ k) × (version ≡ v)) ⊎ (others ≡ true)
row k v key version true e = inr refl
row k v key version false e = inl (grind (arith, ints, e), grind (arith, ints, e))

abbrev AreKafkas : List Api → Type 0
AreKafkas apis = AllByRecursion (λ api. api_key api <ℤ first_own_key) apis

found : (apis : List Api) (key version : ℤ) → AreKafkas apis → lists (map version_range apis) key version ≡ true → HasApi key version × (key <ℤ first_own_key)
found [] key version all e = absurd cc
found (api ∷ apis) key version all e =
    elim (row (api_key api) (api_version api) key version (lists (map version_range apis) key version) e) [
      | inl is ↦ ((api, is), subst (λ (k : ℤ). k <ℤ first_own_key) (sym is.0) all.0)
      | inr rest ↦ found apis key version all.1 rest
    ]

told : (api : Api) → api_key api <ℤ first_own_key → lists listed_ranges (api_key api) (api_version api) ≡ true
told api low = grind (arith, ints, low)

all_kafkas : AreKafkas listed_apis
all_kafkas = (omega arith, (omega arith, (omega arith, (omega arith, (omega arith, (omega arith, (omega arith, (omega arith, (omega arith, tt)))))))))

pub list_is_table : (key version : ℤ) → (lists listed_ranges key version ≡ true) ↔ (HasApi key version × (key <ℤ first_own_key))
list_is_table key version = (
  found listed_apis key version all_kafkas,
  λ has. (λ i. lists listed_ranges (has.0.1.0 i) (has.0.1.1 i)) ∙ told has.0.0 (subst (λ (k : ℤ). k <ℤ first_own_key) has.0.1.0 has.1),
)

pub list_rises : AreRising listed_ranges
list_rises = (omega arith, (omega arith, (omega arith, (omega arith, (omega arith, (omega arith, (omega arith, (omega arith, tt))))))))
