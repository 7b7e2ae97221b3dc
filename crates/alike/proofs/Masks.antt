-- The mask of the superseded anchor.
use Rattle.std.proofs.lemmas.Option.{same_Some}
use Rattle.std.proofs.lemmas.Bool.{cond_both, false_from_ne_true}
use Rattle.std.specs.Prelude.{Option, None, Some}
use mathlib.Core.Bool.{Bool, false}
use mathlib.Core.Path.{◌≡◌, refl, sym, ap, ◌∙◌}
use Rattle.head_values.specs.Anchors.{holds, same_anchor}
use Rattle.head_values.specs.declared.ReadAnchor.{ReadAnchor}
use Rattle.alike.proofs.Tests.{by_test, holds_same, nothing_at, same_anchor_lem, same_holds, true_false}
use Rattle.alike.specs.Canon.{mask_by}
use Rattle.head_values.specs.Ranges.{SlotFits}

-- a second time it hides nothing more
pub mask_twice : (h : ReadAnchor → Bool) (s : Option ReadAnchor) → mask_by h (mask_by h s) ≡ mask_by h s
unfolding mask_by
mask_twice h None = refl
mask_twice h (Some b) = by_test (h b) (λ e. rw e refl) (λ e. rw (e, e) refl)

-- what is not hidden is seen through the mask
pub mask_holds : (h : ReadAnchor → Bool) (a : ReadAnchor) (s : Option ReadAnchor) → h a ≡ false → holds s a ≡ holds (mask_by h s) a
unfolding mask_by holds
mask_holds h a None e = refl
mask_holds h a (Some b) e = by_test (h b)
    (λ t. rw t (false_from_ne_true (same_anchor b a) (λ q. true_false t (ap h (same_anchor_lem b a q) ∙ e))))
    (λ f. rw f refl)

pub mask_at : (h : ReadAnchor → Bool) (s : Option ReadAnchor) (x : ReadAnchor) → mask_by h s ≡ Some x → (s ≡ Some x) × (h x ≡ false)
unfolding mask_by
mask_at h None x e = nothing_at e
mask_at h (Some b) x e = by_test (h b)
    (λ t. nothing_at (rw t at e))
    (λ f. let z : Some b ≡ Some x = rw f at e in (z, ap h (sym (same_Some _ _ z)) ∙ f))

at_mask : (h : ReadAnchor → Bool) (x : ReadAnchor) → h x ≡ false → mask_by h (Some x) ≡ Some x
unfolding mask_by
at_mask h x f = rw f refl

slots_same : (s t : Option ReadAnchor) → ((x : ReadAnchor) → s ≡ Some x → t ≡ Some x) → ((x : ReadAnchor) → t ≡ Some x → s ≡ Some x) → s ≡ t
slots_same None None f g = refl
slots_same None (Some b) f g = g b refl
slots_same (Some a) t f g = sym (f a refl)

-- anchors that are the same but where hidden are masked alike
pub mask_same : (h : ReadAnchor → Bool) (s t : Option ReadAnchor) → ((a : ReadAnchor) → h a ≡ false → holds s a ≡ holds t a) → mask_by h s ≡ mask_by h t
mask_same h s t f = slots_same _ _ (shown s t f) (shown t s (λ a e. sym (f a e)))
  where
    shown : (s t : Option ReadAnchor) → ((a : ReadAnchor) → h a ≡ false → holds s a ≡ holds t a) → (x : ReadAnchor) → mask_by h s ≡ Some x → mask_by h t ≡ Some x
    shown s t f x e =
        let m = mask_at h s x e in
        let q = holds_same t x (sym (f x m.1) ∙ same_holds s x m.0) in
        rw (q, at_mask h x m.1) refl

pub mask_fits : (h : ReadAnchor → Bool) (s : Option ReadAnchor) → SlotFits s → SlotFits (mask_by h s)
unfolding mask_by
mask_fits h None f = tt
mask_fits h (Some a) f = cond_both (h a) _ _ SlotFits (λ e. tt) (λ e. f)
