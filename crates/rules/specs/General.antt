-- Words that every section uses, in the library's terms.
use Rattle.std.specs.Prelude.{Bool, true, ◌&&◌, List, [], ◌∷◌, filter}
use Rattle.std.specs.List.{list_all}

-- every element passes the test
abbrev pub every : {A : Type 0} → (A → Bool) → List A → Bool
every test xs = list_all test xs

-- every two elements pass the test
abbrev pub every_two : {A : Type 0} → (A → A → Bool) → List A → Bool
every_two test [] = true
every_two test (x ∷ xs) = every (test x) xs && every_two test xs

-- the elements that pass the test, in their order
abbrev pub those : {A : Type 0} → (A → Bool) → List A → List A
those test xs = filter test xs
