mod ClashExamples
mod TakenLaws
mod ApartLaws
mod OrderedLaws
mod FullLaws
mod PlaceLaws
