-- A text reads as a driver exactly when it is in sheet form, and is that driver's lines.
use Prim.Native.Nat.{ℕ}
use mathlib.Core.Bool.{Bool, true, false}
use mathlib.Core.List.{List, [], ◌∷◌, ◌++◌, append_assoc, append-nil}
use mathlib.Core.Path.{◌≡◌, refl, ap, sym, ◌∙◌, subst}
use Rattle.std.specs.Prelude.{Option, None, Some, cond}
use Rattle.head_values.specs.declared.ReadAnchor.{ReadAnchor}
use Rattle.head_count.specs.Counters.{seq_of}
use Rattle.head_count.specs.declared.Seq.{Seq}
use Rattle.head_attempt.specs.declared.WaiterSlot.{WaiterSlot}
use Rattle.head_ready.specs.declared.Generation.{Generation}
use Rattle.head_current.specs.declared.CurrentHead.{CurrentHead}
use Rattle.head_driver.specs.declared.Driver.{Driver}
use Rattle.sheet_lines.specs.Lines.{count_line, current_line, installed_line, previous_line, superseded_line, waiter_lines}
use Rattle.script_sheet.specs.Sheets.{life_lines, lines_of}
use Rattle.text.specs.Rests.{Rest, Took, at, at_end, stopped}
use Rattle.sheet_read.specs.declared.counts.Counts.{Counts}
use Rattle.sheet_read.specs.Heads.{read_count, read_current, read_installed, read_previous, read_superseded}
use Rattle.sheet_read.specs.Reads.{read_sheet, whole}
use Rattle.sheet_read.specs.Waiters.{read_waiters}
use Rattle.sheet_rules.specs.Form.{InForm, SheetForm}
use Rattle.sheet_back.specs.Statements.{FormRead}
use Rattle.sheet_back.proofs.Lines.{count_back, current_back, installed_back, previous_back, superseded_back}
use Rattle.sheet_back.proofs.Only.{count_only, current_only, installed_only, previous_only, superseded_only}
use Rattle.sheet_back.proofs.Shapes.{count_range, current_shows, installed_shape, previous_shape, superseded_shape, waiters_shape}
use Rattle.sheet_back.proofs.Waiters.{sixteen_back}
use Rattle.sheet_back.proofs.WaitersOnly.{waiters_only}

same_rest : {s t : List ℕ} → at s ≡ at t → s ≡ t
same_rest e = cc

-- the lines in one row
six : (a b c d e t : List ℕ) → (a ++ (b ++ (c ++ (d ++ e)))) ++ t ≡ a ++ (b ++ (c ++ (d ++ (e ++ t))))
six a b c d e t = simp append_assoc

row : (d : Driver) → lines_of d
    ≡ count_line d.life.stats d.life.claim_epoch ++ (current_line d.life.current ++ (superseded_line d.life.superseded
    ++ (installed_line d.life.installed ++ (previous_line d.life.previous ++ waiter_lines 0 d.waiters))))
unfolding lines_of life_lines
row d = six (count_line d.life.stats d.life.claim_epoch) (current_line d.life.current) (superseded_line d.life.superseded)
    (installed_line d.life.installed) (previous_line d.life.previous) (waiter_lines 0 d.waiters)

-- ---- what is in form is read

form_back : (d : Driver) → InForm d → read_sheet (lines_of d) ≡ Some d
unfolding read_sheet whole at_end
form_back d v =
    let l = d.life in
    let f = v.fits.life in
    let fs = f.stats in
    let fe = f.epoch in
    let fc = f.current in
    let fo = v.end in
    let fu = f.superseded in
    let ki = v.installed in
    let kp = v.previous in
    let fi = f.installed in
    let fp = f.previous in
    let fw = v.fits.waiters in
    let sixteen = v.fits.sixteen in
    let h = v.head in
    rw (row d) (simp (count_back, current_back, superseded_back, installed_back, previous_back, sixteen_back, h) (ap with_seq (sym v.seq)))
  where
    with_seq : Seq → Option Driver
    with_seq n = Some (record {
      life = record {
        current = d.life.current;
        superseded = d.life.superseded;
        installed = d.life.installed;
        previous = d.life.previous;
        seq = n;
        claim_epoch = d.life.claim_epoch;
        stats = d.life.stats;
      };
      waiters = d.waiters;
    })

-- ---- and nothing else is

end_only : (r : Rest) → at_end r ≡ true → r ≡ at []
unfolding at_end
end_only (at []) e = refl
end_only (at (b ∷ s)) e = cc
end_only stopped e = cc

same_one : {x y : Driver} → Some x ≡ Some y → x ≡ y
same_one e = cc

nothing_read : {X : Type 0} {y : Driver} → None ≡ Some y → X
nothing_read e = cc

module _ (text : List ℕ) where
  counts : Took Counts
  counts = read_count (at text)

  current : Took CurrentHead
  current = read_current counts.value.stats.delivered counts.value.epoch counts.next

  superseded : Took (Option ReadAnchor)
  superseded = read_superseded current.next

  installed : Took (Option Generation)
  installed = read_installed superseded.next

  previous : Took (Option Generation)
  previous = read_previous installed.next

  waiters : Took (List WaiterSlot)
  waiters = read_waiters 16 0 previous.next

  -- what was read
  driver : Driver
  driver = record {
    life = record {
      current = current.value;
      superseded = superseded.value;
      installed = installed.value;
      previous = previous.value;
      seq = seq_of counts.value.stats.delivered;
      claim_epoch = counts.value.epoch;
      stats = counts.value.stats;
    };
    waiters = waiters.value;
  }

  is_text : waiters.next ≡ at [] → text ≡ lines_of driver
  unfolding counts current superseded installed previous waiters driver
  is_text e =
      let w = waiters_only 16 0 previous.next [] e ∙ ap at (append-nil (waiter_lines 0 waiters.value)) in
      let p = previous_only installed.next _ w in
      let i = installed_only superseded.next _ p in
      let s = superseded_only current.next _ i in
      let c = current_only counts.value.stats.delivered counts.value.epoch counts.next _ s in
      same_rest (count_only (at text) _ c) ∙ sym (row driver)

  in_form : InForm driver
  unfolding counts current superseded installed previous waiters driver
  in_form =
      let c = count_range (at text) in
      let h = current_shows counts.value.stats.delivered counts.value.epoch c.0.0 c.1 counts.next in
      let i = installed_shape superseded.next in
      let p = previous_shape installed.next in
      let w = waiters_shape 16 0 previous.next in
      record {
        fits = record {
          life = record {
            current = h.fits;
            superseded = superseded_shape current.next;
            installed = i.0;
            previous = p.0;
            seq = c.0.0;
            epoch = c.1;
            stats = c.0;
          };
          waiters = w.0;
          sixteen = w.1;
        };
        seq = refl;
        head = h.shown;
        end = h.end;
        installed = i.1;
        previous = p.1;
      }

  read_form : (d : Driver) → read_sheet text ≡ Some d → SheetForm text d
  unfolding read_sheet whole counts current superseded installed previous waiters driver
  read_form d e = go (at_end waiters.next) refl e
    where
      go : (b : Bool) → at_end waiters.next ≡ b → cond b (Some driver) None ≡ Some d → SheetForm text d
      go true q f = subst (SheetForm text) (same_one f) (in_form, is_text (end_only waiters.next q))
      go false q f = nothing_read f

pub form_read : FormRead
form_read text d = (read_form text d, λ f. ap read_sheet f.1 ∙ form_back d f.0)
