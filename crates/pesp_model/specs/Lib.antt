pub mod PespTexts
