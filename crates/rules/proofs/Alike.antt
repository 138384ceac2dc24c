-- Document 02, A5: nothing behind the blamed octet matters, for the refusals that are settled there.
use Rattle.std.specs.Prelude.{if◌then◌else◌}
use Prim.Native.Nat.{ℕ, ◌+◌, ◌*◌, ◌%◌, ◌≤◌, ◌<◌}
use mathlib.Core.Path.{◌≡◌, refl, sym, ap, ◌∙◌}
use mathlib.Core.Bool.{Bool, true, false, cond, true≢false}
use mathlib.Core.List.{List, [], ◌∷◌, ◌++◌, append_assoc}
use native.Mathlib.Omega.{arith}
use borrow.Author.Tests.{ltb-true, ltb-false, leb-true, leb-false, le-ltb, ne_eqb}
use lib.Dec.{eqb, leb, ltb}
use lib.ListN.{length, length-take}
use lib.Seq.{get_or-take}
use Rattle.rules.specs.Numbers.{parameter_most}
use Rattle.rules.specs.Refusals.{Check, ◌when◌, ◌for◌over◌, ◌blaming◌, first, first_at, fault}
use Rattle.rules.specs.Registry.{kind_of}
use Rattle.rules.specs.Layout.{octet, has1a, at2, at3, has3a, context_of, last_of_context, past_sequence, past_address, has_addresses, is_padded, cut_before, last_checks, second_checks, sequence_checks, address_checks, addresses_checks, reading_checks}
use Rattle.rules.specs.Blame.{Blamed, is_settled, Alike}
use Rattle.rules.specs.declared.Entry.{Entry}
use Rattle.rules.specs.declared.Fault.{Fault}
use Rattle.rules.proofs.Blamed.{Guarded, guarded, blamed}

-- a refusal that, if it is settled, blames no octet before a position; and checks that give no other
abbrev NotBefore : ℕ → Fault → Type 0
NotBefore at x = cond (is_settled x.number) (at ≤ x.position) Unit

abbrev From : ℕ → List Check → Type 0
From at cs = Guarded (NotBefore at) cs

-- the checks of octet 3 and on, and of octet 2 and on, by the kind and where the octet stands
abbrev checks3 : ℕ → ℕ → List ℕ → List Check
checks3 kind at s = sequence_checks s at ++ addresses_checks kind s (past_sequence s at)

abbrev checks2 : ℕ → ℕ → List ℕ → List Check
checks2 kind at s = last_checks s at ++ checks3 kind (at + 1) s

-- of octet 1 and on, by the kind and whether there is 1a
abbrev checks1 : ℕ → Bool → List ℕ → List Check
checks1 kind b s = cut_before s 1 ∷ ((if b then second_checks s else []) ++ (8 when eqb kind 0 blaming (if b then 1 else 0) ∷ checks2 kind (if b then 2 else 1) s))

-- they are what stands behind 4
regroup : (xs : List Check) (c : Check) (ls qs rs : List Check) → xs ++ (c ∷ []) ++ ls ++ qs ++ rs ≡ xs ++ (c ∷ (ls ++ (qs ++ rs)))
regroup xs c ls qs rs = simp append_assoc

by-octets : (registry : List Entry) (s : List ℕ) (b : Bool) → has1a s ≡ b
    → reading_checks registry s ≡ 4 for length s over parameter_most ∷ checks1 (kind_of registry (context_of s)) b s
unfolding reading_checks
by-octets registry s b e =
    let optional : List Check = if has1a s then second_checks s else [] in
    rw (← e)
    (ap (λ (cs : List Check). 4 for length s over parameter_most ∷ cut_before s 1 ∷ cs) (regroup optional _ (last_checks s (at2 s)) (sequence_checks s (at3 s)) _))

-- positions only grow: checks from q on blame nothing before a position up to q
module _ (s : List ℕ) (at : ℕ) where
  from_last : (q : ℕ) (cs : List Check) → at ≤ q → From at cs → From at (last_checks s q ++ cs)
  from_last q cs h f = (λ _. tt, λ _. (λ _. h, λ _. f))

  from-address : (q : ℕ) (cs : List Check) → at ≤ q → From at cs → From at (address_checks s q ++ cs)
  from-address q cs h f = (λ _. tt, λ _. (λ _. h, λ _. (λ _. tt, λ _. f)))

  from-addresses : (kind q : ℕ) → at ≤ q → From at (addresses_checks kind s q)
  from-addresses kind q h = go (has_addresses kind)
    where
      second : ℕ
      second = past_address s q

      go : (b : Bool) → From at (if b then address_checks s q ++ address_checks s second else [])
      go true = from-address q (address_checks s second) h (from-address second [] (omega arith) tt)
      go false = tt

  from-seven : (test : Bool) (kind third q : ℕ) → at ≤ q → From at (7 when test blaming third ∷ addresses_checks kind s q)
  from-seven test kind third q h = (λ _. tt, λ _. from-addresses kind q h)

  from-checks3 : (kind q : ℕ) → at ≤ q → From at (checks3 kind q s)
  from-checks3 kind q h = (λ _. tt, λ _. go (has3a (octet s q)) _)
    where
      go : (b test : Bool) → From at ((if b then last_checks s (q + 1) else []) ++ (7 when test blaming q ∷ []) ++ addresses_checks kind s (if b then q + 2 else q + 1))
      go true test = from_last (q + 1) (7 when test blaming q ∷ addresses_checks kind s (q + 2)) (omega arith) (from-seven test kind q (q + 2) (omega arith))
      go false test = from-seven test kind q (q + 1) (omega arith)

  from-checks2 : (kind q : ℕ) → at ≤ q → From at (checks2 kind q s)
  from-checks2 kind q h = from_last q (checks3 kind (q + 1) s) h (from-checks3 kind (q + 1) (omega arith))

-- a refusal of the first list that is settled at p is the second's too
record Same (p : ℕ) (cs cs' : List Check) : Type 0 where
  same : is_settled (first cs) ≡ true → first_at cs ≡ p → fault cs' ≡ fault cs

module _ (p : ℕ) where
  none : Same p [] []
  none = record { same = λ _ _. refl }

  -- one check more, the same in both
  one : (n at : ℕ) (b : Bool) {cs cs' : List Check} → Same p cs cs' → Same p (n when b blaming at ∷ cs) (n when b blaming at ∷ cs')
  one n at true next = record { same = λ _ _. refl }
  one n at false next = record { same = next.same }

  -- one that is not settled, and does not apply in the second
  skip : (n at at' : ℕ) (b b' : Bool) {cs cs' : List Check} → is_settled n ≡ false → b' ≡ false → Same p cs cs'
      → Same p (n when b blaming at ∷ cs) (n when b' blaming at' ∷ cs')
  skip n at at' true b' u e next = record { same = λ x _. absurd (true≢false (sym x ∙ u)) }
  skip n at at' false b' u e next = record { same = λ x y. rw e (next.same x y) }

  -- checks behind p say nothing of it
  reach : (at : ℕ) {cs cs' : List Check} → From at cs → (at ≤ p → Same p cs cs') → Same p cs cs'
  reach at {cs} {cs'} f next = go (leb at p) refl
    where
      go : (b : Bool) → leb at p ≡ b → Same p cs cs'
      go true e = next (leb-true _ _ e)
      go false e =
          let far : NotBefore at (fault cs) = guarded (NotBefore at) cs f tt in
          record { same = λ x y. let z : at ≤ first_at cs = rw x at far in absurd (omega (arith, leb-false)) }

-- two parameters with the same octets up to p, which the second has
module _ (p : ℕ) (s s' : List ℕ) (inside : p < length s') (agree : (i : ℕ) → i ≤ p → octet s i ≡ octet s' i) where
  abbrev Both : (List ℕ → List Check) → Type 0
  Both checks = Same p (checks s) (checks s')

  -- 5 does not apply up to p
  cut : (least : ℕ) {cs cs' : List Check} → least ≤ p + 1 → Same p cs cs' → Same p (cut_before s least ∷ cs) (cut_before s' least ∷ cs')
  cut least h next = skip p 5 _ _ _ _ refl (le-ltb (length s') least (omega arith)) next

  -- each group: where it is reached, its octets are the same in both
  last : (at : ℕ) {cs cs' : List Check} → From at cs → (at ≤ p → Same p cs cs') → Same p (last_checks s at ++ cs) (last_checks s' at ++ cs')
  last at {cs} f next = reach p at (from_last s at at cs (omega arith) f) (λ h. cut (at + 1) (omega arith) (rw (agree at h) (one p 6 at _ (next h))))

  address : (at : ℕ) {cs cs' : List Check} → ((q : ℕ) → q ≤ past_address s at → From q cs) → (at ≤ p → Same p cs cs')
      → Same p (address_checks s at ++ cs) (address_checks s' at ++ cs')
  address at {cs} f next =
      let past : ℕ = past_address s at in
      reach p at (from-address s at at cs (omega arith) (f at (omega arith)))
      (λ h. cut (at + 1) (omega arith) (rw (← agree at h) (one p 9 at _ (reach p past (λ _. tt, λ _. f past (omega arith)) (λ k. cut past (omega arith) (next h))))))

  addresses : (kind at : ℕ) → Both (λ u. addresses_checks kind u at)
  addresses kind at = go (has_addresses kind)
    where
      second : ℕ
      second = past_address s at

      go : (b : Bool) → Both (λ u. if b then address_checks u at ++ address_checks u (past_address u at) else [])
      go true = address at (λ q h. from-address s q second [] h tt) (λ h. rw (← agree at h) (address second (λ _ _. tt) (λ _. none p)))
      go false = none p

  same3 : (kind at : ℕ) → Both (checks3 kind at)
  same3 kind at = reach p at (from-checks3 s at kind at (omega arith)) (λ h. cut (at + 1) (omega arith) (rw (← agree at h) (go (has3a (octet s at)) _)))
    where
      go : (b test : Bool)
          → Both (λ u. (if b then last_checks u (at + 1) else []) ++ (7 when test blaming at ∷ []) ++ addresses_checks kind u (if b then at + 2 else at + 1))
      go true test = last (at + 1) (from-seven s (at + 1) test kind at (at + 2) (omega arith)) (λ _. one p 7 at test (addresses kind (at + 2)))
      go false test = one p 7 at test (addresses kind (at + 1))

  same2 : (kind at : ℕ) → Both (checks2 kind at)
  same2 kind at = last at (from-checks3 s at kind (at + 1) (omega arith)) (λ _. same3 kind (at + 1))

  same1 : (k k' : ℕ) (b : Bool) → ((if b then 1 else 0) ≤ p → k ≡ k') → Same p (checks1 k b s) (checks1 k' b s')
  same1 k k' true e = cut 1 (omega arith) (last 1 far (λ h. rw (← agree 1 h, ← e h) (one p 23 1 _ (one p 8 1 _ (same2 k 2)))))
    where
      far : From 1 (23 when is_padded s blaming 1 ∷ 8 when eqb k 0 blaming 1 ∷ checks2 k 2 s)
      far = (λ _. omega arith, λ _. (λ _. omega arith, λ _. from-checks2 s 1 k 2 (omega arith)))
  same1 k k' false e = cut 1 (omega arith) (rw (← e (omega arith)) (one p 8 0 _ (same2 k 1)))

  contexts : last_of_context s ≤ p → context_of s ≡ context_of s'
  contexts h = rw (agree 0 (omega arith)) (go (has1a s') (octet s' 0 % 128) (rw (agree 0 (omega arith)) at h))
    where
      go : (b : Bool) (x : ℕ) → (if b then 1 else 0) ≤ p → (if b then x + 128 * (octet s 1 % 128) else x) ≡ (if b then x + 128 * (octet s' 1 % 128) else x)
      go true x h = rw (agree 1 h)
      go false x h = refl

  reading : (registry : List Entry) → length s' ≤ parameter_most → Both (reading_checks registry)
  reading registry short =
      rw (by-octets registry s (has1a s) refl, by-octets registry s' (has1a s) (rw (agree 0 (omega arith))))
      (skip p 4 _ _ _ _ refl (le-ltb _ _ short) (same1 _ _ (has1a s) (λ h. ap (kind_of registry) (contexts h))))

-- a settled refusal blames an octet that is there
settled-inside : (s : List ℕ) (x : Fault) → Blamed s x → is_settled x.number ≡ true → x.position < length s
settled-inside s x b settled = go (ltb x.position (length s)) refl
  where
    go : (t : Bool) → ltb x.position (length s) ≡ t → x.position < length s
    go true e = ltb-true _ _ e
    go false e =
        let out : length s ≤ x.position = ltb-false _ _ e in
        let six = ne_eqb x.number 6 (λ n. omega (arith, (b.six n).1)) in
        let eight = ne_eqb x.number 8 (λ n. omega (arith, (b.eight n).1)) in
        let nine = ne_eqb x.number 9 (λ n. omega (arith, (b.nine n).1)) in
        let padded = ne_eqb x.number 23 (λ n. omega (arith, (b.padded n).1, (b.padded n).2)) in
        absurd (true≢false (sym settled ∙ simp (six, eight, nine, padded)))

pub alike : (registry : List Entry) (s s' : List ℕ) → Alike registry s s'
alike registry s s' settled short takes = (reading p s s' inside agree registry short).same settled refl
  where
    p : ℕ
    p = first_at (reading_checks registry s)

    inside : p < length s'
    inside = omega (arith, settled-inside s (fault (reading_checks registry s)) (blamed registry s) settled, simp length-take at (ap length takes))

    agree : (i : ℕ) → i ≤ p → octet s i ≡ octet s' i
    agree i h =
        let k : i < p + 1 = omega arith in
        sym (get_or-take (p + 1) s i 0 k) ∙ ap (λ (l : List ℕ). octet l i) takes ∙ get_or-take (p + 1) s' i 0 k
