use mathlib.Core.Path.{refl}
use Rattle.dispatch.proofs.Laws.{answered, by_none, shown}
use Rattle.dispatch.proofs.call_in.Goals as goal

pub returns-in-2 : goal.returns-in-2
returns-in-2 c = answered _ _ _ _ _ _ _ _ _ _ 2 c.in-2.is c.declare_in.ensures refl refl refl

pub returns-in-3 : goal.returns-in-3
returns-in-3 c = answered _ _ _ _ _ _ _ _ _ _ 3 c.in-3.is c.new_region_in.ensures refl refl refl

pub returns-in-4 : goal.returns-in-4
returns-in-4 c = answered _ _ _ _ _ _ _ _ _ _ 4 c.in-4.is c.subregion_in.ensures refl refl refl

pub returns-in-5 : goal.returns-in-5
returns-in-5 c = answered _ _ _ _ _ _ _ _ _ _ 5 c.in-5.is c.push_in.ensures refl refl refl

pub returns-in-6 : goal.returns-in-6
returns-in-6 c = answered _ _ _ _ _ _ _ _ _ _ 6 c.in-6.is c.drop_in.ensures refl refl refl

pub returns-in-7 : goal.returns-in-7
returns-in-7 c = answered _ _ _ _ _ _ _ _ _ _ 7 c.in-7.is c.hand_back_in.ensures refl refl refl

pub returns-in-8 : goal.returns-in-8
returns-in-8 c = answered _ _ _ _ _ _ _ _ _ _ 8 c.in-8.is c.allocate_in.ensures refl refl refl

pub returns-in-9 : goal.returns-in-9
returns-in-9 c = answered _ _ _ _ _ _ _ _ _ _ 9 c.in-9.is c.first_in.ensures refl refl refl

pub returns-in-10 : goal.returns-in-10
returns-in-10 c = answered _ _ _ _ _ _ _ _ _ _ 10 c.in-10.is c.copy_in.ensures refl refl refl

pub returns-in-11 : goal.returns-in-11
returns-in-11 c = answered _ _ _ _ _ _ _ _ _ _ 11 c.in-11.is c.fetch_in.ensures refl refl refl

pub returns-in-12 : goal.returns-in-12
returns-in-12 c = answered _ _ _ _ _ _ _ _ _ _ 12 c.in-12.is c.clear_in.ensures refl refl refl

pub returns-in-13 : goal.returns-in-13
returns-in-13 c = answered _ _ _ _ _ _ _ _ _ _ 13 c.in-13.is c.load_in.ensures refl refl refl

pub returns-in-14 : goal.returns-in-14
returns-in-14 c = answered _ _ _ _ _ _ _ _ _ _ 14 c.in-14.is c.set_pointer_in.ensures refl refl refl

pub returns-in-15 : goal.returns-in-15
returns-in-15 c = answered _ _ _ _ _ _ _ _ _ _ 15 c.in-15.is c.put_in.ensures refl refl refl

pub returns-in-16 : goal.returns-in-16
returns-in-16 c = answered _ _ _ _ _ _ _ _ _ _ 16 c.in-16.is c.get_in.ensures refl refl refl

pub returns-in-17 : goal.returns-in-17
returns-in-17 c = shown _ _ _ _ _ _ _ _ c.in-17.is (λ u. (c.view_in-v.ensures u).0) refl c.refused.ensures

pub returns-in-18 : goal.returns-in-18
returns-in-18 c = answered _ _ _ _ _ _ _ _ _ _ 18 c.in-18.is c.same_in.ensures refl refl refl

pub returns-in-19 : goal.returns-in-19
returns-in-19 c = answered _ _ _ _ _ _ _ _ _ _ 19 c.in-19.is c.about_in.ensures refl refl refl

pub returns-in-20 : goal.returns-in-20
returns-in-20 c = answered _ _ _ _ _ _ _ _ _ _ 20 c.in-20.is c.report_in.ensures refl refl refl

pub returns-in-21 : goal.returns-in-21
returns-in-21 c = answered _ _ _ _ _ _ _ _ _ _ 21 c.in-21.is (c.totals_in.ensures _) refl refl refl

pub returns-in-22 : goal.returns-in-22
returns-in-22 c = answered _ _ _ _ _ _ _ _ _ _ 22 c.in-22.is c.audit_in.ensures refl refl refl

pub returns-in-23 : goal.returns-in-23
returns-in-23 c = answered _ _ _ _ _ _ _ _ _ _ 23 c.in-23.is c.delete_in.ensures refl refl refl

pub returns-in-24 : goal.returns-in-24
returns-in-24 c = answered _ _ _ _ _ _ _ _ _ _ 24 c.in-24.is c.delete_all_in.ensures refl refl refl

pub returns-in-25 : goal.returns-in-25
returns-in-25 c = answered _ _ _ _ _ _ _ _ _ _ 25 c.in-25.is c.locate_in.ensures refl refl refl

pub returns-in_default : goal.returns-in_default
returns-in_default c = by_none _ _ _ _ _ c.in_default.in_default-own.rest c.refuses.ensures refl
