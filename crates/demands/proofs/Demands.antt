-- The customer's three demands hold of document 01's definitions.
use Rattle.demands.specs.Demands.{Demands}
use Rattle.demands.proofs.Listed.{listed_names}
use Rattle.demands.proofs.Demand1.{demand1}
use Rattle.demands.proofs.Answers.{numbered, told, volume-of-one}
use Rattle.demands.proofs.Demand2.{faces, demand2}
use Rattle.demands.proofs.Sheets.{sheets2}
use Rattle.demands.proofs.Demand3.{demand3}
use Rattle.demands.proofs.Geometry.{geometry}
use Rattle.demands.proofs.Origin.{any_origin}
use Rattle.demands.proofs.Moved.{shifts, mirrors, turns, scaled, higher}
use Rattle.demands.proofs.Renumbered.{renumbering}
use Rattle.demands.proofs.Shown.{shown_alike}

pub demands : Demands
demands = record {
  answer = demand1;
  numbered = numbered;
  told = told;
  volume = volume-of-one;
  report = demand2;
  sheets = sheets2;
  check = demand3;
  candidates = faces;
  listed = listed_names;
  geometry = geometry;
  any_origin = any_origin;
  shifts = shifts;
  mirrors = mirrors;
  renumbers = renumbering;
  higher = higher;
  shown = shown_alike;
  turns = turns;
  scales = scaled;
}
