-- The tests of the state machine as equations: a test of equality holds exactly of equals; and what a saturating counter does.
use Rattle.std.proofs.lemmas.Bool.{cond_both, and_parts, false_from_ne_true}
use Rattle.std.specs.Prelude.{Option, None, Some, not, ◌&&◌}
use Prim.Native.Nat.{ℕ, ◌+◌, ◌≤◌, ◌<◌}
use mathlib.Core.Bool.{Bool, true, false}
use mathlib.Core.Path.{◌≡◌, refl, ap}
use native.Mathlib.Omega.{arith}
use lib.Dec.{eqb, ltb}
use borrow.Author.Tests.{eq-eqb, ltb-true, ltb-false, eqb-true}
use Rattle.std.specs.Option.{option_eq}
use Rattle.hash.specs.Hashes.{same_hash}
use Rattle.head_values.specs.Anchors.{holds, same_anchor}
use Rattle.head_count.specs.Counters.{up}
use Rattle.hash.specs.declared.Hash.{Hash}
use Rattle.head_values.specs.declared.ReadAnchor.{ReadAnchor}
use Rattle.hash.specs.Ranges.{Fits}

pub true_false : {X : Type 0} {b : Bool} → b ≡ true → b ≡ false → X
true_false p q = cc

-- a test by its two cases
pub by_test : {X : Type 0} (b : Bool) → (b ≡ true → X) → (b ≡ false → X) → X
by_test true t f = t refl
by_test false t f = f refl

pub true_from_not_false : (b : Bool) → not b ≡ false → b ≡ true
true_from_not_false true e = refl
true_from_not_false false e = true_false refl e

pub false_from_not_true : (b : Bool) → not b ≡ true → b ≡ false
false_from_not_true true e = true_false e refl
false_from_not_true false e = refl

-- numbers

pub eqb_same : (n : ℕ) → eqb n n ≡ true
eqb_same n = eq-eqb n n refl

pub at_most_15 : (n : ℕ) → n < 16 → ltb 15 n ≡ false
at_most_15 n h = false_from_ne_true _ (λ t. omega (arith, ltb-true 15 n t))

-- hashes and anchors

pub same_hash_lem : (a b : Hash) → same_hash a b ≡ true → a ≡ b
unfolding same_hash
same_hash_lem a b e =
    let t3 = eqb a.w3 b.w3 in
    let t2 = eqb a.w2 b.w2 && t3 in
    let t1 = eqb a.w1 b.w1 && t2 in
    let r1 = (and_parts (eqb a.w0 b.w0) t1 e).1 in
    let r2 = (and_parts (eqb a.w1 b.w1) t2 r1).1 in
    let p0 = eqb-true _ _ ((and_parts (eqb a.w0 b.w0) t1 e).0) in
    let p1 = eqb-true _ _ ((and_parts (eqb a.w1 b.w1) t2 r1).0) in
    let p2 = eqb-true _ _ ((and_parts (eqb a.w2 b.w2) t3 r2).0) in
    let p3 = eqb-true _ _ ((and_parts (eqb a.w2 b.w2) t3 r2).1) in
    λ i. record { w0 = p0 i; w1 = p1 i; w2 = p2 i; w3 = p3 i }

pub hash_same : (a : Hash) → same_hash a a ≡ true
unfolding same_hash
hash_same a = simp eqb_same

same_block_hash_lem : (a b : Option Hash) → option_eq same_hash a b ≡ true → a ≡ b
same_block_hash_lem None None e = refl
same_block_hash_lem None (Some b) e = true_false e refl
same_block_hash_lem (Some a) None e = true_false e refl
same_block_hash_lem (Some a) (Some b) e = ap Some (same_hash_lem a b e)

block_hash_same : (a : Option Hash) → option_eq same_hash a a ≡ true
block_hash_same None = refl
block_hash_same (Some a) = hash_same a

pub same_anchor_lem : (a b : ReadAnchor) → same_anchor a b ≡ true → a ≡ b
unfolding same_anchor
same_anchor_lem a b e =
    let p = eqb-true _ _ ((and_parts (eqb a.number b.number) (option_eq same_hash a.hash b.hash) e).0) in
    let q = same_block_hash_lem _ _ ((and_parts (eqb a.number b.number) (option_eq same_hash a.hash b.hash) e).1) in
    λ i. record { number = p i; hash = q i }

pub anchor_same : (a b : ReadAnchor) → a ≡ b → same_anchor a b ≡ true
unfolding same_anchor
anchor_same a b e = rw (e, eqb_same, block_hash_same) refl

-- slots

pub holds_same : (s : Option ReadAnchor) (a : ReadAnchor) → holds s a ≡ true → s ≡ Some a
unfolding holds
holds_same None a e = true_false e refl
holds_same (Some b) a e = ap Some (same_anchor_lem b a e)

pub same_holds : (s : Option ReadAnchor) (a : ReadAnchor) → s ≡ Some a → holds s a ≡ true
unfolding holds
same_holds s a e = rw e (anchor_same a a refl)

pub nothing_at : {X : Type 0} {a : ReadAnchor} → None ≡ Some a → X
nothing_at p = cc

-- counters

pub up_below : (n : ℕ) → n < 0xffff_ffff_ffff_ffff → up n ≡ n + 1
unfolding up
up_below n h = cond_both (ltb n 0xffff_ffff_ffff_ffff) (n + 1) n (λ x. x ≡ n + 1) (λ e. refl) (λ e. absurd (omega (arith, ltb-false n 0xffff_ffff_ffff_ffff e)))

pub up_fits : (n : ℕ) → Fits n → Fits (up n)
unfolding up
up_fits n h = cond_both (ltb n 0xffff_ffff_ffff_ffff) (n + 1) n Fits (λ e. omega (arith, ltb-true n 0xffff_ffff_ffff_ffff e)) (λ e. h)

-- no counter falls
pub up_least : (n : ℕ) → n ≤ up n
unfolding up
up_least n = cond_both (ltb n 0xffff_ffff_ffff_ffff) (n + 1) n (λ x. n ≤ x) (λ e. omega arith) (λ e. omega arith)

-- one more is at least 1, at the limit too
pub up_positive : (n : ℕ) → 1 ≤ up n
unfolding up
up_positive n = cond_both (ltb n 0xffff_ffff_ffff_ffff) (n + 1) n (λ x. 1 ≤ x) (λ e. omega arith) (λ e. omega (arith, ltb-false n 0xffff_ffff_ffff_ffff e))

pub up_same : (m n : ℕ) → m < 0xffff_ffff_ffff_ffff → n < 0xffff_ffff_ffff_ffff → up m ≡ up n → m ≡ n
up_same m n p q e = omega (arith, e, up_below m p, up_below n q)

pub up_other : (n : ℕ) → n < 0xffff_ffff_ffff_ffff → n ≡ up n → ⊥
up_other n p e = omega (arith, e, up_below n p)
