use Rattle.std.proofs.Common.{◌≡◌, ◌+◌, ◌≤◌, ◌<◌, ℤ, pos, length, sym, ap, ◌∙◌, set, arith, FitsSigned, to_z, of_z}
use Rattle.std.proofs.Math.ListN.{length-set}
use Rattle.std.proofs.Math.Seq.{sets, length-sets}
use mir.Syntax.{w16, w64}
use mir.Facts.{sfits_widen, to_z-of_z, to_z_pos}
use Rattle.text.specs.Ascii.{TAB}
use Rattle.text.specs.Number.{decimal}
use Rattle.rows.specs.Text.{row_text}
use Rattle.rows.proofs.Texts.{two_length, two_stored, index_length, value_length}
use Rattle.rows.proofs.write_row.Goals as goal
use Rattle.rows.proofs.write_row.Goals.{After-write_number-tab, After-write_number-newline}

pub write_number-tab-requires : goal.write_number-tab-requires
write_number-tab-requires c =
    let id = to_z_pos w64 {n = c.args.index} (omega arith) in
    rw id (omega (arith, index_length c.args.index c.requires.index_bound))

-- after the index
after_index : (c : After-write_number-tab) →
    (c.write_number-tab.result ≡ c.args.at + length (decimal (pos c.args.index)))
    × (c.write_number-tab.new.out ≡ sets c.args.out.now c.args.at (decimal (pos c.args.index)))
after_index c =
    let id = to_z_pos w64 {n = c.args.index} (omega arith) in
    (rw id at c.write_number-tab.ensures.value, rw id at c.write_number-tab.ensures.out_after)

-- the buffer is as long as it was, and a tab, a value and a newline have room
roomy : (c : After-write_number-tab) →
    (length c.write_number-tab.new.out ≡ length c.args.out.now) × (c.write_number-tab.result + 8 ≤ length c.args.out.now)
roomy c =
    let e = after_index c in
    (ap length e.1 ∙ simp length-sets, omega (arith, e.0, index_length c.args.index c.requires.index_bound))

pub bounds-out-tab : goal.bounds-out-tab
bounds-out-tab c = omega (arith, roomy (goal.at.bounds-out-tab c).After-write_number-tab)

pub overflow_add-tab : goal.overflow_add-tab
overflow_add-tab c = omega (arith, roomy (goal.at.overflow_add-tab c).After-write_number-tab)

-- the value as it is passed on
passed : (v : ℤ) → FitsSigned w16 v → to_z w64 (of_z w64 (to_z w16 (of_z w16 v))) ≡ v
passed v f = rw (to_z-of_z {w = w16} f) (to_z-of_z {w = w64} (sfits_widen {w = w16} {w' = w64} tt f))

pub write_number-newline-requires : goal.write_number-newline-requires
write_number-newline-requires c =
    let i = (goal.at.write_number-newline-requires c).After-write_number-tab in
    rw (passed c.args.value c.ranges.value) (simp length-set (omega (arith, roomy i, value_length c.args.value c.ranges.value)))

-- after the value
after_value : (c : After-write_number-newline) →
    (c.write_number-newline.result ≡ c.write_number-tab.result + 1 + length (decimal c.args.value))
    × (c.write_number-newline.new.out
    ≡ sets (set c.write_number-tab.new.out c.write_number-tab.result TAB) (c.write_number-tab.result + 1) (decimal c.args.value))
after_value c =
    let e = passed c.args.value c.ranges.value in
    (rw e at c.write_number-newline.ensures.value, rw e at c.write_number-newline.ensures.out_after)

-- the buffer is as long as it was, and the newline has room
newline_inside : (c : After-write_number-newline) →
    (length c.write_number-tab.new.out ≡ length c.args.out.now) × (c.write_number-tab.result + 8 ≤ length c.args.out.now)
    → (length c.write_number-newline.new.out ≡ length c.args.out.now) × (c.write_number-newline.result < length c.args.out.now)
newline_inside c r =
    let e = after_value c in
    (ap length e.1 ∙ simp (length-sets, length-set) r.0, omega (arith, e.0, r, value_length c.args.value c.ranges.value))

pub bounds-out-newline : goal.bounds-out-newline
bounds-out-newline c =
    let p = goal.at.bounds-out-newline c in
    omega (arith, newline_inside p.After-write_number-newline (roomy p.After-write_number-tab))

pub overflow_add-result : goal.overflow_add-result
overflow_add-result c =
    let p = goal.at.overflow_add-result c in
    omega (arith, newline_inside p.After-write_number-newline (roomy p.After-write_number-tab))

pub returns-clause-value : goal.returns-clause-value
unfolding row_text
returns-clause-value c =
    let p = goal.at.returns-clause-value c in
    let f = after_index p.After-write_number-tab in
    let g = after_value p.After-write_number-newline in
    omega (arith, f.0, g.0, two_length (decimal (pos c.args.index)) (decimal c.args.value))

pub returns-clause-out_after : goal.returns-clause-out_after
unfolding row_text
returns-clause-out_after c =
    let p = goal.at.returns-clause-out_after c in
    let f = after_index p.After-write_number-tab in
    let g = after_value p.After-write_number-newline in
    rw (g.0, g.1, f.0, f.1) (sym (two_stored (decimal (pos c.args.index)) (decimal c.args.value) c.args.out.now c.args.at))
