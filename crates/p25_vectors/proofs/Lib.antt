mod DrawsLaws
mod BodiesLaws
mod DamageLaws
mod HitsLaws
mod WithinLaws
mod SampleLaws
